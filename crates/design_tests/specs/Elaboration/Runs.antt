-- A means of proof: the values of a design's signals under a stimulus (IEEE 1364-2005, clause 11), for the test program of elaboration.
use Rattle.std.specs.Prelude.{◌≡◌, ℕ, zero, suc, ◌<◌, ◌≤◌, ◌⊎◌, List, [], ◌∷◌, ◌++◌, length, Option, None, Some, codes, false, if◌then◌else◌}
use Rattle.std.specs.List.{flat_map, slice_split}
use Rattle.four_value.specs.Vector.{digit_letters}
use Rattle.four_value.specs.declared.Digit.{Digit}
use Rattle.gpi.specs.Content.{Content, Does, opening}
use Rattle.gpi.specs.Events.{Event, event, idle, put, value_at}
use Rattle.gpi.specs.Soundness.{IsSoundFlat}
use Rattle.gpi.specs.State.{is_end}
use Rattle.gpi.specs.declared.design.Flat.{Flat}
use Rattle.gpi.specs.declared.design.Signal.{Signal}
use Rattle.gpi.specs.declared.types.SigId.{SigId}
use Rattle.table_rows.specs.Rows.{behind, decimal, front_of, is_byte}
use Rattle.design_tests.specs.Elaboration.Digits.{vector_of}

-- ---- events

-- the event that is next
abbrev pub next : Content → Option Event
next c = event c.procs c.state c.keys

-- An event comes.
pub record Comes (before after : Content) : Type 0 where
  pub last : Event
  pub is_next : next before ≡ Some last
  pub does : Does before last after

-- so many events, one after the other
abbrev pub Events : ℕ → Content → Content → Type 0
Events zero start last = last ≡ start
Events (suc n) start last = (before : Content) × Events n start before × Comes before last

-- the number of events at which a design is given up
abbrev pub most_events : ℕ
most_events = 10000

-- Events come until nothing is left, or as many as may come.
pub record Settles (start last : Content) : Type 0 where
  pub count : ℕ
  pub few : count ≤ most_events
  pub events : Events count start last
  pub stops : count < most_events → next last ≡ None

-- ---- deposits

-- what a word deposits: the number of a signal, `=`, and its digits

abbrev pub signal_in : List ℕ → SigId
signal_in word = record { 0 = decimal (front_of 61 word) }

abbrev pub digits_in : List ℕ → List Digit
digits_in word = vector_of (behind 61 word)

-- There are digits, as many as the signal has, and the simulator may be written.
pub record Fits (c : Content) (word : List ℕ) : Type 0 where
  pub some : 0 < length (behind 61 word)
  pub signal : (signal_in word).0 < length c.state.signals
  pub writable : is_end c.state.region ≡ false
  pub width : length (digits_in word) ≡ length (value_at c.state (signal_in word))

abbrev pub Writes : Content → List ℕ → Content → Type 0
Writes before word after = Does before (put before.procs before.state before.keys (signal_in word) (digits_in word)) after

-- the deposit of a word is made where it fits
abbrev pub Deposits : Content → List ℕ → Content → Type 0
Deposits before word after = (Fits before word × Writes before word after) ⊎ ((Fits before word → ⊥) × (after ≡ before))

-- ---- steps

-- one call for each element of a list, in order
abbrev pub Chain : {C X : Type 0} → (C → X → C → Type 0) → C → List X → C → Type 0
Chain {C} does start [] last = last ≡ start
Chain {C} does start (x ∷ xs) last = (between : C) × does start x between × Chain does between xs last

-- the words of a step, between spaces
abbrev pub words_of : List ℕ → List (List ℕ)
words_of step = slice_split (is_byte 32) step

-- the steps of a stimulus, between bars
abbrev pub steps_of : List ℕ → List (List ℕ)
steps_of stimulus = slice_split (is_byte 124) stimulus

-- a value, behind a space
abbrev pub value_text : List Digit → List ℕ
value_text bits = 32 ∷ digit_letters bits

-- the values of all signals, or that something is left
abbrev pub standing_text : Content → List ℕ
standing_text c = if idle c.procs c.state c.keys then flat_map value_text c.state.signals else codes " no rest"

-- What a simulator holds, and what was shown so far.
pub record Shown : Type 0 where
  pub content : Content
  pub text : List ℕ

abbrev pub shown_by : List ℕ → Content → Shown
shown_by text content = record { content = content; text = text }

-- A step: its deposits, the events that they bring about, and what the signals have then.
pub record Steps (before : Shown) (step : List ℕ) (after : Shown) : Type 0 where
  pub written : Content
  pub deposits : Chain Deposits before.content (words_of step) written
  pub settles : Settles written after.content
  pub shows : after.text ≡ before.text ++ 59 ∷ standing_text after.content

-- the path of a signal, behind a space
abbrev pub path_text : Signal → List ℕ
path_text signal = 32 ∷ signal.path

-- The paths of a design's signals, and behind them what they have after each step; the events of the opening state come before.
pub record ShowsRun (flat : Flat) (stimulus text : List ℕ) : Type 0 where
  pub first : Content
  pub settles : Settles (opening flat) first
  pub last : Content
  pub steps : Chain Steps (shown_by (flat_map path_text flat.signals) first) (steps_of stimulus) (shown_by text last)

-- a sound design is run
abbrev pub ShowsDesign : Flat → List ℕ → List ℕ → Type 0
ShowsDesign flat stimulus text =
    (IsSoundFlat flat × ShowsRun flat stimulus text) ⊎ ((IsSoundFlat flat → ⊥) × (text ≡ codes " not sound"))

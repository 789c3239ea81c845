-- A means of proof: what the code keeps of a text, as where the text stands.
use Rattle.std.specs.Prelude.{◌≡◌, ◌≢◌, ◌+◌, ◌<◌, ◌&&◌, ℕ, max, nat_lt, nat_le, not, Bool, true, false, List, [], ◌∷◌, ◌++◌, codes, length, map, replicate, Option, None, Some, MatchOption, slice_get}
use Rattle.std.specs.List.{AllByRecursion}
use Rattle.port_io.specs.ToldLaws.{joined}
use Rattle.name_table.specs.Places.{first_place}
use Rattle.four_value.specs.Vector.{digit_byte}
use Rattle.gpi.specs.Limits.{most_elements}
use Rattle.vcd_text.specs.Hierarchy.{most_inner}
use Rattle.vcd_text.specs.Spelling.{code, line, value_line}
use Rattle.vcd_text.specs.Rules.{OpenScope, ReadState, TakesLines, begun, goes_to, with_opening}
use Rattle.vcd_text.specs.Reading.{IsOneLine}
use Rattle.vcd_text.specs.declared.change.Change.{Change}
use Rattle.vcd_text.specs.declared.reader.Part.TheVariants.{Changes}
use Rattle.vcd_text.specs.declared.reader.Known.{Known}
use Rattle.vcd_text.specs.declared.reader.Scope.{Scope}
use Rattle.vcd_text.specs.declared.reader.Reader.{Reader}

abbrev pub is_there : Option ℕ → Bool
is_there None = false
is_there (Some place) = true

abbrev pub scope_of : Scope → OpenScope
scope_of scope = record { path = scope.path; uses = λ name. is_there (first_place scope.names name) }

abbrev pub state_of : Reader → ReadState
state_of reader = record {
  part = reader.part;
  scope = scope_of reader.scope;
  outer = map scope_of reader.outer.items;
  nodes = reader.nodes;
  fresh = reader.fresh;
  free = reader.free;
  known = reader.known.items;
  told = reader.told;
  time = reader.time;
  waits = reader.waits;
  changes = reader.changes.items;
}

-- the place of each code is that of a signal that has it, and codes without a place are no signal's
abbrev pub AreCoded : List (List ℕ × ℕ) → List Known → Type 0
AreCoded codes known = (text : List ℕ) → MatchOption (first_place codes text)
    ((place : ℕ) (signal : Known) → slice_get known place ≡ Some signal → text ≡ code signal.number → ⊥)
    (λ place. (signal : Known) × (slice_get known place ≡ Some signal) × (text ≡ code signal.number))

-- no two signals have one number, and all have smaller ones than the next may have
pub record Numbered (known : List Known) (free : ℕ) : Type 0 where
  pub below : (i : ℕ) (a : Known) → slice_get known i ≡ Some a → a.number < free
  pub apart : (i j : ℕ) (a b : Known) → slice_get known i ≡ Some a → slice_get known j ≡ Some b → a.number ≡ b.number → a ≡ b

-- what is kept of signals is so
pub record IsKept (names : List (List ℕ × ℕ)) (known : List Known) (free : ℕ) : Type 0 where
  pub coded : AreCoded names known
  pub numbered : Numbered known free

-- an instance of this name may begin in the innermost one
abbrev pub may_begin : ReadState → List ℕ → Bool
may_begin s name = not (s.scope.uses name) && (nat_lt (length s.outer) most_inner && nat_lt s.nodes most_elements)

-- a signal of this name and number may stand in it
abbrev pub may_have : ReadState → List ℕ → ℕ → Bool
may_have s name number = s.fresh && (nat_le s.free number && not (s.scope.uses name))

-- this time may be told
abbrev pub may_tell : ReadState → ℕ → Bool
may_tell s time = not s.waits && (nat_lt s.time time && nat_lt 0 (length s.known))

-- whether a line is taken, and how the text stands behind it
abbrev pub Answers : (ReadState → List ℕ → ReadState → Type 0) → ReadState → List ℕ → Bool → ReadState → Type 0
Answers takes before text true after = takes before text after
Answers takes before text false after = (other : ReadState) → takes before text other → ⊥

-- the signal at this place has this code
abbrev pub IsCodeAt : List Known → ℕ → List ℕ → Type 0
IsCodeAt known place text = (signal : Known) × (slice_get known place ≡ Some signal) × (text ≡ code signal.number)

-- signals and their codes are as before
abbrev pub KeepsKnown : Reader → Reader → Type 0
KeepsKnown before after = (after.known.items ≡ before.known.items) × (after.codes ≡ before.codes) × (after.free ≡ before.free)

-- the line of the opening value of a signal, and that behind the last one
abbrev pub next_opening : Option Known → List ℕ
next_opening None = line (codes "$end")
next_opening (Some signal) = value_line signal.number (replicate signal.width (digit_byte signal.start))

-- behind an opening value, or behind the last one
abbrev pub past_opening : Option Known → ReadState → ReadState
past_opening None s = goes_to Changes s
past_opening (Some signal) s = with_opening s

abbrev pub behind_opening : ReadState → ReadState
behind_opening s = past_opening (slice_get s.known s.told) s

-- the change of a signal to these digits, where it has as many
abbrev pub IsChangeAt : ReadState → Option Known → List ℕ → Option Change → Type 0
IsChangeAt s None digits found = Unit {0}
IsChangeAt s (Some signal) digits None = length digits ≢ signal.width
IsChangeAt s (Some signal) digits (Some change) = (length digits ≡ signal.width) × (change ≡ record { time = s.time; path = signal.path; digits = digits })

-- a change more, behind the last time
abbrev pub with_change : Change → ReadState → ReadState
with_change change s = record s { waits = false; changes = s.changes ++ change ∷ [] }

-- ---- lines

-- the text begins with this line, behind which the rest stands
pub record IsNextLine (text first rest : List ℕ) : Type 0 where
  pub body : List ℕ
  pub whole : IsOneLine body
  pub first_is : first ≡ line body
  pub split : text ≡ first ++ rest

-- so many lines of the text may stand so, the text stands so behind them, and this is its rest
pub record IsBehind (text rest : List ℕ) (number : ℕ) (s : ReadState) : Type 0 where
  pub lines : List (List ℕ)
  pub each : AllByRecursion IsOneLine lines
  pub split : text ≡ joined (map line lines) ++ rest
  pub counted : number ≡ length lines
  pub taken : TakesLines begun (map line lines) s

-- the number of the last line, where so many lines stand before this open one
abbrev pub last_number : ℕ → List ℕ → ℕ
last_number number [] = max 1 number
last_number number (byte ∷ bytes) = number + 1

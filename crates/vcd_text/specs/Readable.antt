-- A means of proof: that a VCD text can be read: it is the text of one list of changes.
use Rattle.std.specs.Prelude.{◌≡◌, ℕ, List, [], map, take, Option, None, Some, slice_get}
use Rattle.port_io.specs.ToldLaws.{joined}
use Rattle.gpi.specs.declared.design.Signal.{Signal}
use Rattle.gpi.specs.declared.design.Flat.{Flat}
use Rattle.vcd_text.specs.Changes.{ValueChange, AreChangesOf}
use Rattle.vcd_text.specs.Text.{vcd}
use Rattle.vcd_text.specs.Traceable.{IsTraceable}
use Rattle.vcd_text.specs.Reading.{BeginSome, HasLines, IsVcdOf, Trace}
use Rattle.vcd_text.specs.Rules.{BreaksAt, EndsEarly, IsOver, IsRead, IsRefused, ReadState, TakesLines, begun}
use Rattle.vcd_text.specs.declared.change.Change.{Change}

-- two lists of changes of runs on one design have two texts
abbrev pub One_list : Type 0
One_list = (flat : Flat) (a b : List ValueChange) → AreChangesOf flat a → AreChangesOf flat b → joined (vcd flat a) ≡ joined (vcd flat b) → a ≡ b

-- ---- what a reader tells of a text

abbrev pub path_of : Option Signal → List ℕ
path_of None = []
path_of (Some signal) = signal.path

-- a change, by the path of its signal
abbrev pub told_change : List Signal → ValueChange → Change
told_change signals change = record { time = change.time; path = path_of (slice_get signals change.signal); digits = change.digits }

-- the text of a design and changes of it keeps the rules, and tells these changes, in order
abbrev pub Reads_back : Type 0
Reads_back = (flat : Flat) (changes : List ValueChange) → IsTraceable flat → AreChangesOf flat changes → IsRead (joined (vcd flat changes)) (map (told_change flat.signals) changes)

-- a text tells one list of changes, or it is refused at one line, and not both
abbrev pub Reads_once : Type 0
Reads_once = (text : List ℕ) (a b : List Change) → IsRead text a → IsRead text b → a ≡ b

abbrev pub Reads_or_refuses : Type 0
Reads_or_refuses = (text : List ℕ) (changes : List Change) (number : ℕ) → IsRead text changes → IsRefused text number → ⊥

abbrev pub Refuses_once : Type 0
Refuses_once = (text : List ℕ) (m n : ℕ) → IsRefused text m → IsRefused text n → m ≡ n

-- where a line of a text is refused, no text of a design and changes begins with the lines up to that one
abbrev pub No_text_goes_on : Type 0
No_text_goes_on = (text : List ℕ) (lines : List (List ℕ)) (open_line : List ℕ) (number : ℕ) → HasLines text lines open_line → BreaksAt lines number
    → BeginSome (take number lines) → ⊥

-- where all lines of a text may stand so, but it can't end there, it is the text of no design and changes
abbrev pub No_text_ends : Type 0
No_text_ends = (text : List ℕ) (lines : List (List ℕ)) (open_line : List ℕ) (number : ℕ) → HasLines text lines open_line → EndsEarly text lines open_line number
    → (trace : Trace) → IsVcdOf trace text → ⊥

-- lines that keep the rules can go on to a whole text that does
abbrev pub Fronts_go_on : Type 0
Fronts_go_on = (texts : List (List ℕ)) (s : ReadState) → TakesLines begun texts s → (more : List (List ℕ)) × (last : ReadState) × TakesLines s more last × IsOver last

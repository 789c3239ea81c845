-- The VCD text of a run (IEEE 1364-2005, clause 18): its lines, in order.
use Rattle.std.specs.Prelude.{ℕ, ◌-◌, ◌==◌, List, [], ◌∷◌, ◌++◌, map, replicate, codes, Option, None, Some, slice_get, if◌then◌else◌}
use Rattle.std.specs.Fmt.{decimal}
use Rattle.four_value.specs.declared.Digit.{Digit}
use Rattle.four_value.specs.declared.Digit.TheVariants.{X}
use Rattle.four_value.specs.Vector.{digit_byte}
use Rattle.gpi.specs.declared.design.Signal.{Signal}
use Rattle.gpi.specs.declared.design.Flat.{Flat}
use Rattle.vcd_text.specs.Spelling.{line, spelled_step, code, value_line, time_line}
use Rattle.vcd_text.specs.Hierarchy.{Declaration, Opens, Declares, Closes, declarations, traced_signals}
use Rattle.vcd_text.specs.Changes.{ValueChange}

-- ---- the first part: the step (clause 18.2.3, `$timescale`)

abbrev pub step_line : Option (List ℕ) → List ℕ
step_line None = []
step_line (Some step) = line (codes "$timescale " ++ step ++ codes " $end")

-- ---- the second part: declarations (clause 18.2.3, `$scope`, `$var` and `$upscope`)

-- a register, whose opening digit is x, or a net
abbrev pub kind_word : Digit → List ℕ
kind_word X = codes "reg"
kind_word _ = codes "wire"

-- the places of a vector's digits behind its name, and nothing behind that of one digit
abbrev pub range_text : ℕ → List ℕ
range_text width = if width == 1 then [] else codes " [" ++ decimal (width - 1) ++ codes ":0]"

-- a signal with its number, and its name in its instance
abbrev pub signal_line : ℕ → List ℕ → Signal → List ℕ
signal_line number name signal =
    line (codes "$var " ++ kind_word signal.start ++ codes " " ++ decimal signal.width ++ codes " " ++ code number
    ++ codes " " ++ name ++ range_text signal.width ++ codes " $end")

-- an instance of that name begins
abbrev pub scope_line : List ℕ → List ℕ
scope_line name = line (codes "$scope module " ++ name ++ codes " $end")

abbrev pub declaration_line : List Signal → Declaration → List ℕ
declaration_line signals (Opens name) = scope_line name
declaration_line signals (Declares number name) = elim (slice_get signals number) [ None ↦ [] | Some signal ↦ signal_line number name signal ]
declaration_line signals Closes = line (codes "$upscope $end")

-- ---- the third part: opening values (clause 18.2.3, `$enddefinitions` and `$dumpvars`)

-- the opening value of a signal, by its number
abbrev pub opening_line : List Signal → ℕ → List ℕ
opening_line signals number =
    elim (slice_get signals number) [ None ↦ [] | Some signal ↦ value_line number (replicate signal.width (digit_byte signal.start)) ]

abbrev pub opening_lines : Flat → List (List ℕ)
opening_lines flat =
    line (codes "$enddefinitions $end") ∷ time_line 0 ∷ line (codes "$dumpvars")
    ∷ map (opening_line flat.signals) (traced_signals flat) ++ line (codes "$end") ∷ []

-- the first three parts
abbrev pub begin_lines : Flat → List (List ℕ)
begin_lines flat =
    step_line (spelled_step flat.step_fs) ∷ map (declaration_line flat.signals) (declarations flat.nodes) ++ opening_lines flat

-- ---- the fourth part: changes (clauses 18.2.1 and 18.2.2)

-- the lines of a change, where this is the time that was written last
abbrev pub lines_of_change : ℕ → ValueChange → List (List ℕ)
lines_of_change last change =
    let value = value_line change.signal change.digits ∷ [] in
    if change.time == last then value else time_line change.time ∷ value

abbrev pub change_lines : ℕ → List ValueChange → List (List ℕ)
change_lines last [] = []
change_lines last (change ∷ changes) = lines_of_change last change ++ change_lines change.time changes

-- the lines of the text of a design and its changes, each with its line feed
abbrev pub vcd : Flat → List ValueChange → List (List ℕ)
vcd flat changes = begin_lines flat ++ change_lines 0 changes

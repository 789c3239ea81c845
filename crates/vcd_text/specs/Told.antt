-- A means of proof: the change that the code keeps of a line.
use Rattle.std.specs.Prelude.{ℕ, ◌==◌, List, [], ◌∷◌, Option, None, Some, if◌then◌else◌}
use Rattle.gpi.specs.declared.design.Flat.{Flat}
use Rattle.vcd_text.specs.Changes.{ValueChange}
use Rattle.vcd_text.specs.Spelling.{time_line}
use Rattle.vcd_text.specs.TracedLines.{TellsChange, TellsNone}
use Rattle.vcd_text.specs.Splits.{HasParts}
use Rattle.vcd_text.specs.declared.traced_line.Parts.{Parts}
use Rattle.vcd_text.specs.declared.sink.Told.{Told}

abbrev pub change_of : Told → ValueChange
change_of told = record { time = told.time; signal = told.signal; digits = told.digits.now }

-- the line of a time, unless it is the one that was written last
abbrev pub time_lines : ℕ → ℕ → List (List ℕ)
time_lines last time = if time == last then [] else time_line time ∷ []

-- it is the change that the line tells, or the line tells none
abbrev pub TellsFound : Flat → List ℕ → Option Told → Type 0
TellsFound flat text None = TellsNone flat text
TellsFound flat text (Some told) = TellsChange flat text (change_of told)

-- so it is of each line that has these parts
abbrev pub TellsParts : Flat → Parts → Option Told → Type 0
TellsParts flat parts found = (text : List ℕ) → HasParts text parts.time parts.path.now parts.digits.now → TellsFound flat text found

-- A means of proof: the signal that a line declares, as the code keeps it.
use Rattle.std.specs.Prelude.{ℕ, List, Option, None, Some}
use Rattle.four_value.specs.declared.Digit.{Digit}
use Rattle.vcd_text.specs.Forms.{IsVar}
use Rattle.vcd_text.specs.declared.forms.Var.{Var}

-- the line declares no signal, or this one
abbrev pub IsVarFound : List ℕ → Option Var → Type 0
IsVarFound text None = (number : ℕ) (name : List ℕ) (start : Digit) (width : ℕ) → IsVar text number name start width → ⊥
IsVarFound text (Some var) = IsVar text var.number var.name.now var.start var.width

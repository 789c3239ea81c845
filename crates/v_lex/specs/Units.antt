-- A means of proof: which unit of time holds at a place (IEEE 1364-2005, clauses 19.6 and 19.8), for the laws of Verilog's lexer.
use Rattle.std.specs.Prelude.{◌≡◌, ℕ, List, ◌∷◌, ◌++◌, Option, Some, None, ◌⊎◌, All}
use Rattle.v_lex.specs.declared.directive.Directive.TheVariants as directive
use Rattle.v_lex.specs.declared.directive.Content.{Content}
use Rattle.v_lex.specs.declared.directive.Content.TheVariants as content
use Rattle.v_lex.specs.Lexing.{nanosecond, at_modules}
use Rattle.v_lex.specs.Row.{Part, told}

-- the unit that a part sets: a `timescale` its own, a `resetall` 1 ns
abbrev pub set_unit : Content → Option ℕ
set_unit (content.Directive (directive.TimeScale unit precision)) = Some unit
set_unit (content.Directive directive.ResetAll) = Some nanosecond
set_unit _ = None

abbrev pub LeavesUnit : Part → Type 0
LeavesUnit p = set_unit p.content ≡ None

-- Of the parts that set a unit the last sets this one.
pub record IsUnitOfLast (unit : ℕ) (parts : List Part) : Type 0 where
  pub before : List Part
  pub part : Part
  pub behind : List Part
  pub is : parts ≡ before ++ part ∷ behind
  pub sets : set_unit part.content ≡ Some unit
  pub leave : All LeavesUnit behind

-- Behind these parts of a text, from its start on, this unit holds: that of the last part that sets one, or 1 ns where none does.
abbrev pub IsUnit : ℕ → List Part → Type 0
IsUnit unit parts = IsUnitOfLast unit parts ⊎ (All LeavesUnit parts × (unit ≡ nanosecond))

-- the unit at each `module` of the parts, in order
abbrev pub units_of : List Part → List ℕ
units_of row = at_modules (told row).tokens (told row).units

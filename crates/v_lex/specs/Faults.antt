-- A means of proof: the answer for a broken rule, for the proofs of Verilog's lexer.
use Rattle.std.specs.Prelude.{ℕ, List}
use Rattle.v_lex.specs.declared.directive.BrokenRule.{BrokenRule}
use Rattle.v_lex.specs.declared.directive.LexRule.{LexRule}
use Rattle.v_lex.specs.declared.directive.LexRule.TheVariants as rule
use Rattle.v_lex.specs.Row.{BreaksFirst}
use Rattle.v_lex.specs.declared.fault.LexFault.{LexFault}
use Rattle.v_lex.specs.declared.fault.LexFault.TheVariants as fault

abbrev pub fault_at : LexRule → ℕ → LexFault
fault_at rule.BadByte p = fault.BadByte p
fault_at rule.BadNumber p = fault.BadNumber p
fault_at rule.UnclosedText p = fault.UnclosedText p
fault_at rule.Directive p = fault.Directive p

abbrev pub fault_of : BrokenRule → LexFault
fault_of b = fault_at b.rule b.place

-- The answer is the first rule that the text breaks, or memory ran out.
abbrev pub IsFault : LexFault → List ℕ → Type 0
IsFault fault.OutOfMemory text = Unit {0}
IsFault (fault.BadByte p) text = BreaksFirst text rule.BadByte p
IsFault (fault.BadNumber p) text = BreaksFirst text rule.BadNumber p
IsFault (fault.UnclosedText p) text = BreaksFirst text rule.UnclosedText p
IsFault (fault.Directive p) text = BreaksFirst text rule.Directive p

-- Why a text has no design.
use Rattle.std.proofs.Common.{◌≡◌, ℕ, List, refl}
use Rattle.v_lex.specs.Faults.{IsFault}
use Rattle.v_lex.specs.Row.{BreaksFirst}
use Rattle.v_lex.specs.declared.directive.LexRule.{LexRule}
use Rattle.v_lex.specs.declared.directive.LexRule.TheVariants as rule
use Rattle.v_lex.specs.declared.fault.LexFault.{LexFault}
use Rattle.v_lex.specs.declared.fault.LexFault.TheVariants as fault

-- a fault that isn't want of memory is a broken rule
pub broken : (f : LexFault) (text : List ℕ) → (f ≡ fault.OutOfMemory → ⊥) → IsFault f text → (r : LexRule) × (place : ℕ) × BreaksFirst text r place
broken fault.OutOfMemory text other is = absurd (other refl)
broken (fault.BadByte p) text other is = (rule.BadByte, p, is)
broken (fault.BadNumber p) text other is = (rule.BadNumber, p, is)
broken (fault.UnclosedText p) text other is = (rule.UnclosedText, p, is)
broken (fault.Directive p) text other is = (rule.Directive, p, is)

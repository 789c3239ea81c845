-- A means of proof: what it means that the target was checked to which an output is connected (IEEE 1364-2005, clauses 6.1 and 12.3.9.2),
-- for the proofs of elaboration.
use Rattle.std.specs.Prelude.{ℕ, Option, None, Some}
use Rattle.v_syntax.specs.ExpressionTrees.{TargetTree}
use Rattle.v_flat.specs.declared.scope.found.Found.{Found}
use Rattle.v_flat.specs.Scope.Scope.{Scope}
use Rattle.v_process.specs.declared.drive.digits.DrivenDigits.{DrivenDigits}
use Rattle.v_process.specs.Drive.Digits.{KeepsSame}
use Rattle.v_process.specs.declared.target.checked.CheckedTarget.{CheckedTarget}
use Rattle.v_process.specs.Assign.Continuous.{IsContinuous}

-- something was found exactly where the expression spells a target, and then it is that of a continuous assignment, all of whose parts have
-- the place q; else no digit is driven anew
abbrev pub IsOutput : ℕ → Scope → Option TargetTree → DrivenDigits → Option (Found CheckedTarget) → DrivenDigits → Type 0
IsOutput q s None x None y = KeepsSame x y
IsOutput q s None x (Some f) y = ⊥
IsOutput q s (Some t) x None y = ⊥
IsOutput q s (Some t) x (Some f) y = IsContinuous (Some q) s t x f y

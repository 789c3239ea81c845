-- A means of proof: what was found in an expression, where it spells a target.
use Rattle.std.specs.Prelude.{ℕ, List, Option, None, Some}
use Rattle.v_syntax.specs.ExpressionTrees.{TargetTree, TargetTrees}
use Rattle.v_flat.specs.declared.scope.found.Found.{Found}
use Rattle.v_flat.specs.Scope.Scope.{Scope}
use Rattle.v_process.specs.declared.drive.digits.DrivenDigits.{DrivenDigits}
use Rattle.v_process.specs.declared.target.checked.CheckedTarget.{CheckedTarget}
use Rattle.v_process.specs.Assign.Continuous.{IsContinuous, AreContinuous}

-- if there is a target, it is that of a continuous assignment, all of whose parts have the place q
abbrev pub IsSpelled : ℕ → Scope → Option TargetTree → DrivenDigits → Found CheckedTarget → DrivenDigits → Type 0
IsSpelled q s None x f y = Unit {0}
IsSpelled q s (Some t) x f y = IsContinuous (Some q) s t x f y

-- the same of the parts of braces
abbrev pub AreSpelled : ℕ → Scope → Option TargetTrees → DrivenDigits → List (Found CheckedTarget) → DrivenDigits → Type 0
AreSpelled q s None x fs y = Unit {0}
AreSpelled q s (Some ts) x fs y = AreContinuous (Some q) s ts x fs y

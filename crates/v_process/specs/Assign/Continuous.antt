-- A means of proof: what it means that the target of a continuous assignment was checked (IEEE 1364-2005, clause 6.1), and which digits are
-- driven then, for the proofs of elaboration.
use Rattle.std.specs.Prelude.{ℕ, List, [], ◌∷◌, ◌++◌, Option}
use Rattle.v_syntax.specs.ExpressionTrees.{TargetTree, TargetTrees, no_target, more_targets}
use Rattle.v_flat.specs.declared.scope.found.Found.{Found}
use Rattle.v_flat.specs.Scope.Scope.{Scope}
use Rattle.v_flat.specs.Targets.{Drive, Driving, driving, all_driving}
use Rattle.v_process.specs.declared.drive.digits.DrivenDigits.{DrivenDigits}
use Rattle.v_process.specs.Drive.Digits.{Keeps}
use Rattle.v_process.specs.declared.target.checked.CheckedTarget.{CheckedTarget}
use Rattle.v_process.specs.declared.assign.parts.TargetParts.{TargetParts}
use Rattle.v_process.specs.Assign.Targets.{IsTarget, AreTargets}

-- the target has what the definition finds, and y has the digits that are driven after it
pub record Drives (s : Scope) (t : TargetTree) (x : Driving) (f : Found CheckedTarget) (y : DrivenDigits) : Type 0 where
  pub target : IsTarget s t x.width f
  pub driven : Keeps y x.driven

-- whatever was driven before; q is the place of a connection
abbrev pub IsContinuous : Option ℕ → Scope → TargetTree → DrivenDigits → Found CheckedTarget → DrivenDigits → Type 0
IsContinuous q s t x f y = (ds : List Drive) → Keeps x ds → Drives s t (driving q s t ds) f y

-- ---- want of memory

-- y has the digits of these drives, and perhaps of some that came after them
pub record KeepsAtLeast (ds : List Drive) (y : DrivenDigits) : Type 0 where
  pub later : List Drive
  pub driven : Keeps y (ds ++ later)

-- whatever was driven before
abbrev pub KeepsOrGrows : DrivenDigits → DrivenDigits → Type 0
KeepsOrGrows x y = (ds : List Drive) → Keeps x ds → KeepsAtLeast ds y

-- ---- the parts of braces

-- each has what the definition finds in it after those before it, and y has the digits that are driven after all of them
abbrev pub EachDrives : Option ℕ → Scope → TargetTrees → List Drive → List (Found CheckedTarget) → DrivenDigits → Type 0
EachDrives q s no_target ds [] y = Keeps y ds
EachDrives q s no_target ds (f ∷ fs) y = ⊥
EachDrives q s (more_targets t ts) ds [] y = ⊥
EachDrives q s (more_targets t ts) ds (f ∷ fs) y = IsTarget s t (driving q s t ds).width f × EachDrives q s ts (driving q s t ds).driven fs y

-- whatever was driven before
abbrev pub AreContinuous : Option ℕ → Scope → TargetTrees → DrivenDigits → List (Found CheckedTarget) → DrivenDigits → Type 0
AreContinuous q s ts x fs y = (ds : List Drive) → Keeps x ds → EachDrives q s ts ds fs y

-- f is what is found in all of them together
abbrev pub AreTogether : List (Found CheckedTarget) → Found TargetParts → Type 0
AreTogether fs f =
    (q : Option ℕ) (s : Scope) (ts : TargetTrees) (ds : List Drive) (y : DrivenDigits) → EachDrives q s ts ds fs y
    → AreTargets s ts (all_driving q s ts ds).width f

-- Continuous assignments.
use Rattle.std.proofs.Common.{◌≡◌, List, None, Result, Ok, Err, IfOk, OnErr, refl}
use Rattle.gpi.specs.declared.acts.Act.{Act}
use Rattle.gpi.specs.declared.design.Kind.TheVariants.{Assign}
use Rattle.gpi.specs.declared.design.Wake.{Wake}
use Rattle.gpi.specs.declared.design.Process.{Process}
use Rattle.v_syntax.specs.declared.statement.AssignmentKind.TheVariants.{Blocking}
use Rattle.v_syntax.specs.ExpressionTrees.{Tree, TargetTree}
use Rattle.v_syntax.specs.StatementTrees.{Assignment}
use Rattle.v_flat.specs.declared.scope.found.Found.{Found}
use Rattle.v_flat.specs.Scope.Found.{each, both}
use Rattle.v_flat.specs.Scope.Scope.{Scope}
use Rattle.v_flat.specs.Checks.{checked}
use Rattle.v_flat.specs.Targets.{driving}
use Rattle.v_flat.specs.Statements.{done}
use Rattle.v_process.specs.declared.drive.digits.DrivenDigits.{DrivenDigits}
use Rattle.v_check.specs.declared.constants.checked.Checked.{Checked}
use Rattle.v_check.specs.Constants.Checked.{IsChecked}
use Rattle.v_process.specs.declared.target.checked.CheckedTarget.{CheckedTarget}
use Rattle.v_process.specs.Assign.Continuous.{IsContinuous, KeepsOrGrows}
use Rattle.v_process.proofs.AssignLemmas.Grown.{on_err, target_grown}
use Rattle.v_process.proofs.ActLemmas.Assigning.{at_once_takes}
use Rattle.v_process.specs.declared.act.moment.Moment.TheVariants.{AtOnce}
use Rattle.v_process.specs.Act.Statements.{ChecksAssignment}
use Rattle.v_process.specs.Made.{process, IsAssigning}
use Rattle.v_process.specs.Processes.{IsDriver, untimed}
use Rattle.v_process.proofs.Run.{found_process}

pub assigning_found : (x : Found CheckedTarget) (y : Found Checked) (ws : List Wake) (z : Found Act) (f : Found Process) → ChecksAssignment AtOnce x y z
    → f ≡ each (process Assign ws) z → IsAssigning x y ws f
assigning_found x y ws z f h e = λ s t tree a g k.
    found_process untimed Assign ws s (Assignment Blocking t tree) (done (both a (checked s tree))) z f e (h untimed s Blocking t tree a (at_once_takes untimed Blocking refl) g k)

driver_found : (s : Scope) (t : TargetTree) (e : Tree) (ws : List Wake) (x y : DrivenDigits) (u : Found CheckedTarget) (v : Found Checked) (f : Found Process)
    → IsContinuous None s t x u y → IsChecked s e v → IsAssigning u v ws f → IsDriver s t e ws x f y
driver_found s t e ws x y u v f h k made = λ ds kept. record {
  process = made s t e (driving None s t ds).width (h ds kept).target k;
  driven = (h ds kept).driven;
}

pub driver_result : {E : Type 0} (s : Scope) (t : TargetTree) (e : Tree) (ws : List Wake) (x y : DrivenDigits) (u : Found CheckedTarget) (v : Found Checked)
    (r : Result (Found Process) E) → IsContinuous None s t x u y → IsChecked s e v → IfOk r (IsAssigning u v ws)
    → IfOk r (λ (f : Found Process). IsDriver s t e ws x f y)
driver_result s t e ws x y u v (Ok f) h k made = driver_found s t e ws x y u v f h k made
driver_result s t e ws x y u v (Err b) h k made = tt

-- ---- want of memory

pub grown_result : {A E : Type 0} (s : Scope) (t : TargetTree) (x y : DrivenDigits) (u : Found CheckedTarget) (r : Result A E) → IsContinuous None s t x u y
    → OnErr r (KeepsOrGrows x y)
grown_result s t x y u r h = on_err r (target_grown None s t x y u h)

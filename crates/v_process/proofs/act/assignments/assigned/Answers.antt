-- An assignment from what was found in its target and in its value.
use Rattle.std.proofs.Common.{IfOk, subst}
use Rattle.v_flat.specs.declared.scope.found.Found.{Found}
use Rattle.v_check.specs.declared.constants.checked.Checked.{Checked}
use Rattle.v_process.specs.declared.target.checked.CheckedTarget.{CheckedTarget}
use Rattle.v_process.specs.Act.Made.{AreAssignments}
use Rattle.v_process.proofs.ActLemmas.Assigning.{assignment_result}
use Rattle.v_process.proofs.act.assignments.assigned.Goals as goal

pub returns : goal.returns
returns c =
    assignment_result c.args.moment c.args.target c.args.value c.of_both.result
    (subst (λ (x : Found (CheckedTarget × Checked)). IfOk c.of_both.result (AreAssignments c.args.moment x)) c.both.ensures c.of_both.ensures)

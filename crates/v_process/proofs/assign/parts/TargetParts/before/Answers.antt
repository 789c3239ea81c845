-- A part before others.
use Rattle.std.proofs.Common.{IfOk, subst}
use Rattle.v_flat.specs.declared.scope.found.Found.{Found}
use Rattle.v_process.specs.declared.target.checked.CheckedTarget.{CheckedTarget}
use Rattle.v_process.specs.declared.assign.parts.TargetParts.{TargetParts}
use Rattle.v_process.specs.Assign.Made.{AreMoreTargets}
use Rattle.v_process.proofs.AssignLemmas.Added.{more_result}
use Rattle.v_process.proofs.assign.parts.TargetParts.before.Goals as goal

pub returns : goal.returns
returns c = more_result c.args.part c.args.rest c.of_both.result
    (subst (λ (x : Found (CheckedTarget × TargetParts)). IfOk c.of_both.result (AreMoreTargets x)) c.both.ensures c.of_both.ensures)

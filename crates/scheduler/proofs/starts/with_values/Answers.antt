use Rattle.std.proofs.lemmas.Result.{err_from_is_err_and}
use Rattle.rig_model.specs.Run.Case.{values_of}
use Rattle.scheduler.proofs.InOrder.{behind, value_step, value_fault}
use Rattle.scheduler.proofs.starts.with_values.Goals as goal

pub loop-at-preserved : goal.loop-at-preserved
loop-at-preserved c = rw c.in_ok-push.ensures.ok
    (value_step c.loop-at.values c.args.constants.now c.loop-at.at c.get.result.now c.in_ok-constant_value.field-0
    (behind c.args.values (values_of c.args.constants.now)) c.get.ensures c.in_ok-constant_value.ensures c.loop-at.invariant)

pub returns-in_err-constant_value : goal.returns-in_err-constant_value
returns-in_err-constant_value c =
    let p = err_from_is_err_and c.from_residual.result c.from_residual.ensures.1 in
    rw (p.1, p.2)
    (value_fault c.loop-at.values c.args.constants.now c.loop-at.at c.get.result.now c.in_err-constant_value.field-0.0
    (behind c.args.values (values_of c.args.constants.now)) c.get.ensures c.in_err-constant_value.ensures c.loop-at.invariant)

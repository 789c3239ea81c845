use Rattle.std.proofs.Common.{◌∙◌}
use Rattle.std.specs.Prelude.{option_map}
use Rattle.std.proofs.lemmas.Result.{IfOk-weaker}
use Rattle.py_syntax.specs.ExpressionTrees.{view}
use Rattle.rig_model.specs.Task.Awaits.{waits}
use Rattle.task_core.specs.OpenCall.Call.{at_in}
use Rattle.task_step.specs.TaskValues.Waits.{eval_limit}
use Rattle.task_core.proofs.OpenCallLemmas.Ends.{raised_is}
use Rattle.task_step.proofs.TaskValuesLemmas.Ways.{limit_is}
use Rattle.task_core.proofs.statement.awaits.wait_limit.Goals as goal

pub returns-in-Err : goal.returns-in-Err
returns-in-Err g c =
    let a = at_in g.C.Code.reads c.args.task (g.V.Look.view c.args.view.now) c.args.call.now c.args.next.now in
    let e = view c.args.e.now in
    let time = view c.args.time.now in
    let unit = option_map view c.args.unit.now in
    record {
      moved = IfOk-weaker c.fail.result _ _ (λ wish h. limit_is e time unit a
          ∙ raised_is g.C.Code.reads c.in-Err.fault (λ t. t) c.eval_limit.new.next c.args.next.now (eval_limit a.scope e time unit c.args.next.now)
          c.args.call.now c.fail.new.self wish c.args.task (g.V.Look.view c.args.view.now) waits c.in-Err.ensures.ends h) c.fail.ensures;
      rises = c.in-Err.ensures.rises;
    }

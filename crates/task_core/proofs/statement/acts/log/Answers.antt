use Rattle.std.proofs.Common.{map, ◌∙◌}
use Rattle.std.proofs.lemmas.Result.{IfOk-weaker}
use Rattle.py_syntax.specs.ExpressionTrees.{view}
use Rattle.test_meaning.specs.Body.Views.{view_logger}
use Rattle.rig_model.specs.Task.Moves.{want}
use Rattle.rig_model.specs.declared.task.task.Turned.TheVariants as turned
use Rattle.task_core.specs.OpenCall.Call.{at_in}
use Rattle.task_core.specs.Statement.Outcomes.{eval_log}
use Rattle.task_core.proofs.OpenCallLemmas.Ends.{raised_is}
use Rattle.task_core.proofs.StatementLemmas.Logs.{log_is}
use Rattle.task_core.proofs.statement.acts.log.Goals as goal

pub returns-in-Err : goal.returns-in-Err
returns-in-Err g c =
    let a = at_in g.C.Code.reads c.args.task (g.V.Look.view c.args.view.now) c.args.call.now c.args.next.now in
    let logger = view_logger c.args.logger.now in
    let e = view c.args.e.now in
    let es = map view c.args.es.now in
    record {
      moved = IfOk-weaker c.fail.result _ _ (λ wish h. log_is logger c.args.level e es a
          ∙ raised_is g.C.Code.reads c.in-Err.fault (λ t. t) c.eval_log.new.next c.args.next.now (eval_log a.scope logger e es c.args.next.now)
          c.args.call.now c.fail.new.self wish c.args.task (g.V.Look.view c.args.view.now) (λ text f. want (turned.Log c.args.level text) f)
          c.in-Err.ensures.ends h) c.fail.ensures;
      rises = c.in-Err.ensures.rises;
    }

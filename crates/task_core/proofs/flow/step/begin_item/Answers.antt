use Rattle.std.proofs.Common.{rules}
use Rattle.std.proofs.lemmas.Result.{IfOk-weaker}
use Rattle.task_core.proofs.flow.step.begin_item.Goals as goal

pub returns-in-Try : goal.returns-in-Try
returns-in-Try g c =
    IfOk-weaker c.do_try.result _ _ (λ wish h. rw c.in-Try.is (h c.args.task (g.V.Look.view c.args.view.now) c.args.next.now)) c.do_try.ensures

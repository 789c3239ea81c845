use Rattle.std.proofs.lemmas.Result.{IfOk-weaker}
use Rattle.task_core.proofs.flow.step.use_at.Goals as goal

pub returns-in-Enters : goal.returns-in-Enters
returns-in-Enters g c =
    IfOk-weaker c.enter_block.result _ _ (λ wish h. rw c.in-Enters.is (h c.args.value c.args.task (g.V.Look.view c.args.view.now) c.args.next.now)) c.enter_block.ensures

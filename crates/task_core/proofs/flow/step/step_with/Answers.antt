use Rattle.std.proofs.lemmas.Result.{IfOk-weaker}
use Rattle.task_core.specs.OpenCall.Parts.{mark_in}
use Rattle.task_core.proofs.FlowLemmas.Steps.{step_with_is}
use Rattle.task_core.proofs.flow.step.step_with.Goals as goal

pub returns-in-Some-Mark : goal.returns-in-Some-Mark
returns-in-Some-Mark g c =
    IfOk-weaker c.use_at.result _ _ (λ wish h. step_with_is g.C.Code.reads c.args.value (mark_in g.C.Code.reads c.in-Some-Mark.mark) c.args.call.now
    c.take.new.self c.use_at.new.call wish c.args.task (g.V.Look.view c.args.view.now) c.args.next.now c.use_at.new.next
    (rw c.in-Some-Mark.field-0-is at c.in-Some-Mark.ensures.took) c.in-Some-Mark.ensures.same h) c.use_at.ensures

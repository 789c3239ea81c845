use Rattle.std.proofs.lemmas.Result.{IfOk-weaker}
use Rattle.task_step.specs.LoopSpan.Span.{left_in}
use Rattle.task_core.proofs.BlocksLemmas.Ways.{questioned}
use Rattle.task_core.proofs.blocks.loops.ask_each.Goals as goal

pub returns-in-Ok-Some : goal.returns-in-Ok-Some
returns-in-Ok-Some g c =
    IfOk-weaker c.go_round.result _ _ (λ wish h. questioned g.C.Code.reads c.args.name.now (left_in c.args.left) (g.C.Code.reads c.args.block).block _ c.args.call.now c.go_round.new.call wish
    (rw c.in-Ok-Some.field-0-is at c.in-Ok-Some.ensures) h) c.go_round.ensures

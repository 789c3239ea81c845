use Rattle.std.proofs.Common.{refl}
use Rattle.std.proofs.lemmas.Result.{IfOk-weaker}
use Rattle.task_core.proofs.FlowLemmas.Calls.{names_known, next_is}
use Rattle.task_core.specs.Flow.Flow.{functions_in}
use Rattle.task_core.proofs.flow.flow.CodeFlow.go.Goals as goal

pub step_call-requires : goal.step_call-requires
step_call-requires g c = λ k. ((refl, tt {0}), names_known g.C.Code.reads (functions_in g.C.Code.reads c.args.self.now) (g.V.Look.view c.args.view.now) c.args.self.now c.requires.open c.requires.known)

pub returns-clause-next : goal.returns-clause-next
returns-clause-next g c =
    IfOk-weaker c.settle.result _ _ (λ turned h. next_is g.C.Code.reads c.args.self.now (record c.args.self.now { call = c.step_call.new.call; triggers = c.step_call.new.next }) c.settle.new.self
    c.args.given (g.V.Look.view c.args.view.now) c.in_ok-wish.wish turned c.requires.open refl refl refl c.in_ok-wish.ensures h) c.settle.ensures.settled

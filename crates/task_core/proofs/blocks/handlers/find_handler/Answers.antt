use Rattle.std.proofs.lemmas.Result.{IfOk-weaker}
use Rattle.task_core.proofs.BlocksLemmas.Passed.{found_handler, found_none}
use Rattle.task_core.proofs.blocks.handlers.find_handler.Goals as goal

pub returns-in-Some : goal.returns-in-Some
returns-in-Some g c =
    IfOk-weaker c.handle.result _ _ (λ wish h. found_handler g.C.Code.reads (g.C.Code.reads c.args.handlers).handlers c.in-Some.handler c.args.fault c.args.call.now c.handle.new.call wish
    (rw c.in-Some.is at c.first_for.ensures) h) c.handle.ensures

pub returns-in-None : goal.returns-in-None
returns-in-None g c =
    found_none g.C.Code.reads (g.C.Code.reads c.args.handlers).handlers c.args.fault c.args.call.now c.leave.new.self c.leave.result (rw c.in-None.is at c.first_for.ensures) c.leave.ensures

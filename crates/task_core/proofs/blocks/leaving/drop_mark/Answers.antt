use Rattle.std.proofs.lemmas.Result.{IfOk-weaker}
use Rattle.task_core.specs.OpenCall.Course.{jump_in}
use Rattle.task_core.proofs.BlocksLemmas.Passed.{ended, stopped}
use Rattle.task_core.proofs.blocks.leaving.drop_mark.Goals as goal

pub returns-in-Some : goal.returns-in-Some
returns-in-Some g c =
    IfOk-weaker c.at_stop.result _ _ (λ wish h. stopped g.C.Code.reads (jump_in c.args.jump) c.in-Some.stop c.args.call.now c.take_mark.new.self c.at_stop.new.call wish
    c.in-Some.ensures.took c.in-Some.ensures.same h) c.at_stop.ensures

pub returns-in-None : goal.returns-in-None
returns-in-None g c =
    ended g.C.Code.reads (jump_in c.args.jump) c.args.call.now c.take_mark.new.self c.end.new.self c.end.result c.in-None.ensures.took.0 c.in-None.ensures.took.1
    c.in-None.ensures.same c.end.ensures

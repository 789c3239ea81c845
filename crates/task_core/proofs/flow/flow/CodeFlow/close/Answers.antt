use Rattle.std.proofs.Common.{refl, rules}
use Rattle.task_core.specs.OpenCall.Course.{jump_in}
use Rattle.task_core.proofs.FlowLemmas.Calls.{settles_closed}
use Rattle.task_core.proofs.flow.flow.CodeFlow.close.Goals as goal

pub returns-in-Some-clause-closed : goal.returns-in-Some-clause-closed
returns-in-Some-clause-closed g c =
    settles_closed g.C.Code.reads c.args.self.now (record c.args.self.now { call = record c.put.new.place { course = c.put-in-Some.new.place }; around = c.pop.new.self }) (jump_in c.args.jump) c.in-Some.call
    (rw c.in-Some.is at c.pop.ensures.items) refl refl c.requires (search rules)

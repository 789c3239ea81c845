-- The task of a number is that of the flow at it.
use Rattle.run_state.proofs.LiveTasksLemmas.Kept.{flow_is, live_is}
use Rattle.run_state.proofs.live_tasks.tasks.LiveTasks.is_live.Goals as goal

pub returns-clause-is : goal.returns-clause-is
returns-clause-is g c =
    live_is g.F.Flow.meaning c.self.inside.places.items c.self.inside.count c.args.self.now c.args.task c.self.view_is c.self.invariant
    c.is_live.result c.index.result.now c.requires c.index.ensures c.is_live.ensures

pub returns-clause-flow : goal.returns-clause-flow
returns-clause-flow g c =
    flow_is g.F.Flow.meaning c.self.inside.places.items c.self.inside.count c.args.self.now c.args.task c.self.view_is c.self.invariant

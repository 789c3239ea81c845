-- A task lives no more.
use Rattle.std.proofs.Common.{arith}
use Rattle.run_state.specs.LiveTasks.Flows.{meanings}
use Rattle.run_state.proofs.LiveTasksLemmas.Kept.{inside, ends_whole, ends, ends_tasks, ends_of}
use Rattle.run_state.proofs.live_tasks.tasks.LiveTasks.end.Goals as goal

pub index_mut-requires : goal.index_mut-requires
index_mut-requires g c =
    let places = c.self.inside.places in
    omega (arith, places.ok.0, inside (meanings g.F.Flow.functions g.F.Flow.meaning) places.items c.self.inside.count c.args.self.now c.args.task c.self.view_is c.self.invariant c.requires)

pub invariant_of-self : goal.invariant_of-self
invariant_of-self g c =
    ends_whole (meanings g.F.Flow.functions g.F.Flow.meaning) c.self.inside.places.items c.self.inside.count c.args.self.now c.args.task c.self.view_is
    c.self.invariant c.requires c.empty.result c.empty.ensures

pub returns : goal.returns
returns g c =
    record {
      is = ends (meanings g.F.Flow.functions g.F.Flow.meaning) c.self.inside.places.items c.self.inside.count c.args.self.now c.args.task c.self.view_is
          c.self.invariant c.requires c.empty.result c.empty.ensures;
      tasks = ends_tasks (meanings g.F.Flow.functions g.F.Flow.meaning) c.self.inside.places.items c.self.inside.count c.args.self.now c.args.task c.self.view_is
          c.self.invariant c.requires c.empty.result c.empty.ensures;
      file = ends_of (meanings g.F.Flow.functions g.F.Flow.meaning) c.self.inside.places.items c.self.inside.count c.args.self.now c.args.task c.self.view_is
          c.self.invariant c.requires c.empty.result c.empty.ensures;
    }

-- A task more lives.
use Rattle.std.proofs.Common.{arith}
use Rattle.run_state.proofs.LiveTasksLemmas.Numbered.{few}
use Rattle.run_state.proofs.LiveTasksLemmas.Kept.{starts_whole, starts, starts_tasks, starts_of}
use Rattle.run_state.proofs.live_tasks.tasks.LiveTasks.start.Goals as goal

pub overflow_add-self : goal.overflow_add-self
overflow_add-self g c = omega (arith, c.self.invariant.counted, c.self.invariant.limit, few g.F.Flow.meaning c.self.inside.places.items)

pub invariant_of-self-2 : goal.invariant_of-self-2
invariant_of-self-2 g c =
    starts_whole g.F.Flow.meaning c.self.inside.places.items c.push.new.self.items c.self.inside.count c.args.self.now c.in_ok-place.place c.args.flow c.self.view_is
    c.self.invariant c.in_ok-push.ensures.items c.in_ok-place.ensures c.requires.number c.requires.room

pub returns-clause-ok : goal.returns-clause-ok
returns-clause-ok g c =
    starts g.F.Flow.meaning c.self.inside.places.items c.push.new.self.items c.self.inside.count c.args.self.now c.in_ok-place.place c.args.flow c.self.view_is
    c.self.invariant c.in_ok-push.ensures.items c.in_ok-place.ensures c.requires.number c.requires.room

pub returns-clause-tasks : goal.returns-clause-tasks
returns-clause-tasks g c =
    starts_tasks g.F.Flow.meaning c.self.inside.places.items c.push.new.self.items c.self.inside.count c.args.self.now c.in_ok-place.place c.args.flow c.self.view_is
    c.self.invariant c.in_ok-push.ensures.items c.in_ok-place.ensures c.requires.number c.requires.room

pub returns-clause-file : goal.returns-clause-file
returns-clause-file g c =
    starts_of g.F.Flow.meaning c.self.inside.places.items c.push.new.self.items c.self.inside.count c.args.self.now c.in_ok-place.place c.args.flow c.self.view_is
    c.self.invariant c.in_ok-push.ensures.items c.in_ok-place.ensures c.requires.number c.requires.room g.F.Flow.functions

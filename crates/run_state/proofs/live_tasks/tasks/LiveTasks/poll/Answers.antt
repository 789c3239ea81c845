-- A poll at the place of a task is a poll of that task.
use Rattle.std.proofs.Common.{arith}
use Rattle.std.proofs.lemmas.Result.{IfOk-weaker}
use Rattle.run_state.specs.LiveTasks.Flows.{meanings, IsKnown}
use Rattle.run_state.proofs.LiveTasksLemmas.Kept.{inside, lives_here, known_here, stays_whole, leaves_task, stays_of, polls_task}
use Rattle.run_state.proofs.live_tasks.tasks.LiveTasks.poll.Goals as goal

pub index_mut-place-requires : goal.index_mut-place-requires
index_mut-place-requires g c =
    let places = c.self.inside.places in
    omega (arith, places.ok.0, inside (meanings g.F.Flow.functions g.F.Flow.meaning) places.items c.self.inside.count c.args.self.now c.args.task c.self.view_is c.self.invariant c.requires.live)

pub poll-requires-clause-live : goal.poll-requires-clause-live
poll-requires-clause-live g c =
    lives_here (meanings g.F.Flow.functions g.F.Flow.meaning) c.self.inside.places.items c.self.inside.count c.args.self.now c.args.task c.self.view_is
    c.self.invariant c.requires.live c.index_mut-place.result.now c.index_mut-place.ensures.value

pub poll-requires-clause-known : goal.poll-requires-clause-known
poll-requires-clause-known g c =
    let m = meanings g.F.Flow.functions g.F.Flow.meaning in
    known_here m c.self.inside.places.items c.self.inside.count c.args.self.now c.args.task c.self.view_is c.self.invariant c.requires.live
    (IsKnown m (g.V.Look.view c.args.view.now)) c.index_mut-place.result.now c.index_mut-place.ensures.value c.requires.known

pub invariant_of-self : goal.invariant_of-self
invariant_of-self g c =
    stays_whole (meanings g.F.Flow.functions g.F.Flow.meaning) c.self.inside.places.items c.self.inside.count c.args.self.now c.args.task c.self.view_is
    c.self.invariant c.requires.live c.index_mut-place.result.now c.poll.new.self c.index_mut-place.ensures.value c.poll.ensures.left

pub returns-clause-left : goal.returns-clause-left
returns-clause-left g c =
    leaves_task (meanings g.F.Flow.functions g.F.Flow.meaning) c.self.inside.places.items c.self.inside.count c.args.self.now c.args.task c.self.view_is
    c.self.invariant c.requires.live c.index_mut-place.result.now c.poll.new.self c.index_mut-place.ensures.value c.poll.ensures.left

pub returns-clause-polls : goal.returns-clause-polls
returns-clause-polls g c =
    IfOk-weaker c.poll.result _ _
    (λ turned p. polls_task (meanings g.F.Flow.functions g.F.Flow.meaning) c.self.inside.places.items c.self.inside.count c.args.self.now c.args.task c.self.view_is
    c.self.invariant c.requires.live _ _ _ turned _ c.index_mut-place.result.now c.poll.new.self c.index_mut-place.ensures.value p) c.poll.ensures.polls

pub returns-clause-file : goal.returns-clause-file
returns-clause-file g c =
    stays_of (meanings g.F.Flow.functions g.F.Flow.meaning) c.self.inside.places.items c.self.inside.count c.args.self.now c.args.task c.self.view_is
    c.self.invariant c.requires.live c.index_mut-place.result.now c.poll.new.self c.index_mut-place.ensures.value c.poll.ensures.left

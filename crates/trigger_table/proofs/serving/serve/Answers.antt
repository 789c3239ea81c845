use Rattle.std.proofs.Common.{Option, refl, ◌∙◌, subst, arith}
use Rattle.await_tree.specs.WaitList.Waiting.{fired_keys}
use Rattle.await_tree.proofs.WaitListLemmas.Members.{within_self}
use Rattle.await_tree.proofs.WaitListLemmas.Rekeys.{narrows_none, narrows_through}
use Rattle.trigger_table.specs.Keys.{record_keys}
use Rattle.trigger_table.specs.Records.{causes_in, rows_in, state_in}
use Rattle.trigger_table.specs.declared.members.Member.{Member}
use Rattle.trigger_table.proofs.GoneLemmas.{fits_on, held_self, shrinks_self, shrinks_through}
use Rattle.trigger_table.proofs.RowLemmas.{held_then}
use Rattle.trigger_table.proofs.ServeLemmas.{Serving, serve_begins, serve_ends, serve_next, step_few, step_has, step_in, step_own, step_room, step_some, tied_count}
use Rattle.trigger_table.proofs.TieLemmas.{tied_of}
use Rattle.trigger_table.proofs.serving.serve.Goals as goal

pub tasks-init : goal.tasks-init
tasks-init g c = record {
  serving = serve_begins c.args.number c.args.cause c.first_member-at.result (rows_in c.args.records.now) c.args.ready.now.entries c.args.steps.now c.first_member-at.new.steps c.first_member-at.ensures.value c.first_member-at.ensures.ticks;
  room = refl;
  kept = c.requires.kept;
  held = held_self (causes_in c.args.records.now);
  shrinks = shrinks_self (causes_in c.args.records.now);
  loaded = c.requires.loaded;
  fits = c.requires.fits;
  keys = narrows_none (g.K.Gpi.content c.args.kernel.now) (record_keys (causes_in c.args.records.now)) (record_keys (causes_in c.args.records.now)) (λ k h. c.requires.fits.keys.within k h) (within_self (record_keys (causes_in c.args.records.now)));
}

pub next_on-at-requires : goal.next_on-at-requires
next_on-at-requires g c = step_in c.args.number c.args.cause c.in-Some.member c.tasks.reached c.args.records.now c.tasks.records c.args.ready.now.entries c.tasks.ready.entries c.args.steps.now c.tasks.steps
    (subst (λ (o : Option Member). Serving c.args.number c.args.cause o c.tasks.reached (rows_in c.args.records.now) (rows_in c.tasks.records) c.args.ready.now.entries c.tasks.ready.entries c.args.steps.now c.tasks.steps) c.in-Some.is c.tasks.invariant.serving) c.requires.of c.tasks.invariant.kept c.tasks.invariant.shrinks

pub serve_task-requires-clause-has : goal.serve_task-requires-clause-has
serve_task-requires-clause-has g c = step_has c.args.number c.args.cause c.in-Some.member c.tasks.reached c.args.records.now c.tasks.records c.args.ready.now.entries c.tasks.ready.entries c.args.steps.now c.tasks.steps
    (subst (λ (o : Option Member). Serving c.args.number c.args.cause o c.tasks.reached (rows_in c.args.records.now) (rows_in c.tasks.records) c.args.ready.now.entries c.tasks.ready.entries c.args.steps.now c.tasks.steps) c.in-Some.is c.tasks.invariant.serving) c.requires.of c.tasks.invariant.kept c.tasks.invariant.shrinks

pub serve_task-requires-clause-some : goal.serve_task-requires-clause-some
serve_task-requires-clause-some g c = step_some c.args.number c.args.cause c.in-Some.member c.tasks.reached c.args.records.now c.tasks.records c.args.ready.now.entries c.tasks.ready.entries c.args.steps.now c.tasks.steps
    (subst (λ (o : Option Member). Serving c.args.number c.args.cause o c.tasks.reached (rows_in c.args.records.now) (rows_in c.tasks.records) c.args.ready.now.entries c.tasks.ready.entries c.args.steps.now c.tasks.steps) c.in-Some.is c.tasks.invariant.serving) c.requires.of c.tasks.invariant.kept c.tasks.invariant.shrinks

pub serve_task-requires-clause-room : goal.serve_task-requires-clause-room
serve_task-requires-clause-room g c = omega (
  arith,
  c.requires.room,
  c.tasks.invariant.room,
  step_room c.args.number c.args.cause c.in-Some.member c.tasks.reached c.args.records.now c.tasks.records c.args.ready.now.entries c.tasks.ready.entries c.args.steps.now c.tasks.steps
      (subst (λ (o : Option Member). Serving c.args.number c.args.cause o c.tasks.reached (rows_in c.args.records.now) (rows_in c.tasks.records) c.args.ready.now.entries c.tasks.ready.entries c.args.steps.now c.tasks.steps) c.in-Some.is c.tasks.invariant.serving) c.requires.of c.tasks.invariant.kept c.tasks.invariant.shrinks,
)

pub tasks-smaller : goal.tasks-smaller
tasks-smaller g c = omega (
  arith,
  step_few c.args.number c.args.cause c.in-Some.member c.tasks.reached c.args.records.now c.tasks.records c.args.ready.now.entries c.tasks.ready.entries c.args.steps.now c.tasks.steps
      (subst (λ (o : Option Member). Serving c.args.number c.args.cause o c.tasks.reached (rows_in c.args.records.now) (rows_in c.tasks.records) c.args.ready.now.entries c.tasks.ready.entries c.args.steps.now c.tasks.steps) c.in-Some.is c.tasks.invariant.serving) c.requires.of c.tasks.invariant.kept c.tasks.invariant.shrinks,
)

pub tasks-preserved : goal.tasks-preserved
tasks-preserved g c = record {
  serving = serve_next c.args.number c.args.cause c.in-Some.member c.tasks.reached c.args.records.now c.tasks.records c.args.ready.now.entries c.tasks.ready.entries c.args.steps.now c.tasks.steps
      (subst (λ (o : Option Member). Serving c.args.number c.args.cause o c.tasks.reached (rows_in c.args.records.now) (rows_in c.tasks.records) c.args.ready.now.entries c.tasks.ready.entries c.args.steps.now c.tasks.steps) c.in-Some.is c.tasks.invariant.serving) c.requires.of c.tasks.invariant.kept c.tasks.invariant.shrinks
      c.next_on-at.result (rows_in c.serve_task.new.records) c.serve_task.new.ready.entries c.serve_task.new.steps c.next_on-at.ensures.value c.serve_task.ensures.served c.serve_task.ensures.ready
      (omega (
        arith,
        c.serve_task.ensures.ticks,
        c.next_on-at.ensures.ticks,
        step_own c.args.number c.args.cause c.in-Some.member c.tasks.reached c.args.records.now c.tasks.records c.args.ready.now.entries c.tasks.ready.entries c.args.steps.now c.tasks.steps
            (subst (λ (o : Option Member). Serving c.args.number c.args.cause o c.tasks.reached (rows_in c.args.records.now) (rows_in c.tasks.records) c.args.ready.now.entries c.tasks.ready.entries c.args.steps.now c.tasks.steps) c.in-Some.is c.tasks.invariant.serving) c.requires.of c.tasks.invariant.kept c.tasks.invariant.shrinks,
      ))
      (tied_count (causes_in c.serve_task.new.records) (rows_in c.serve_task.new.records) (tied_of (state_in c.serve_task.new.records) c.serve_task.ensures.kept));
  room = c.serve_task.ensures.room ∙ c.tasks.invariant.room;
  kept = c.serve_task.ensures.kept;
  held = held_then (causes_in c.args.records.now) (causes_in c.tasks.records) (causes_in c.serve_task.new.records) c.tasks.invariant.held c.serve_task.ensures.held;
  shrinks = shrinks_through (causes_in c.args.records.now) (causes_in c.tasks.records) (causes_in c.tasks.records) (causes_in c.serve_task.new.records) c.tasks.invariant.shrinks refl c.serve_task.ensures.shrinks;
  loaded = c.serve_task.ensures.loaded;
  fits = fits_on (g.K.Gpi.content c.tasks.kernel) (g.K.Gpi.content c.serve_task.new.kernel) (fired_keys c.args.fired) (causes_in c.tasks.records) (causes_in c.serve_task.new.records) c.tasks.invariant.fits c.serve_task.ensures.keys c.serve_task.ensures.held;
  keys = narrows_through (g.K.Gpi.content c.args.kernel.now) (g.K.Gpi.content c.tasks.kernel) (g.K.Gpi.content c.serve_task.new.kernel) (record_keys (causes_in c.args.records.now)) (record_keys (causes_in c.tasks.records)) (record_keys (causes_in c.serve_task.new.records)) c.tasks.invariant.keys c.serve_task.ensures.keys;
}

pub returns-clause-answer : goal.returns-clause-answer
returns-clause-answer g c = (serve_ends c.args.number c.args.cause c.tasks.reached c.args.records.now c.tasks.records c.args.ready.now.entries c.tasks.ready.entries c.args.steps.now c.tasks.steps
    (subst (λ (o : Option Member). Serving c.args.number c.args.cause o c.tasks.reached (rows_in c.args.records.now) (rows_in c.tasks.records) c.args.ready.now.entries c.tasks.ready.entries c.args.steps.now c.tasks.steps) c.in_default.is c.tasks.invariant.serving) c.requires.of c.tasks.invariant.kept c.tasks.invariant.shrinks).answer

pub returns-clause-waiting : goal.returns-clause-waiting
returns-clause-waiting g c = (serve_ends c.args.number c.args.cause c.tasks.reached c.args.records.now c.tasks.records c.args.ready.now.entries c.tasks.ready.entries c.args.steps.now c.tasks.steps
    (subst (λ (o : Option Member). Serving c.args.number c.args.cause o c.tasks.reached (rows_in c.args.records.now) (rows_in c.tasks.records) c.args.ready.now.entries c.tasks.ready.entries c.args.steps.now c.tasks.steps) c.in_default.is c.tasks.invariant.serving) c.requires.of c.tasks.invariant.kept c.tasks.invariant.shrinks).waiting

pub returns-clause-ready : goal.returns-clause-ready
returns-clause-ready g c = (serve_ends c.args.number c.args.cause c.tasks.reached c.args.records.now c.tasks.records c.args.ready.now.entries c.tasks.ready.entries c.args.steps.now c.tasks.steps
    (subst (λ (o : Option Member). Serving c.args.number c.args.cause o c.tasks.reached (rows_in c.args.records.now) (rows_in c.tasks.records) c.args.ready.now.entries c.tasks.ready.entries c.args.steps.now c.tasks.steps) c.in_default.is c.tasks.invariant.serving) c.requires.of c.tasks.invariant.kept c.tasks.invariant.shrinks).ready

pub returns-clause-ticks : goal.returns-clause-ticks
returns-clause-ticks g c = (serve_ends c.args.number c.args.cause c.tasks.reached c.args.records.now c.tasks.records c.args.ready.now.entries c.tasks.ready.entries c.args.steps.now c.tasks.steps
    (subst (λ (o : Option Member). Serving c.args.number c.args.cause o c.tasks.reached (rows_in c.args.records.now) (rows_in c.tasks.records) c.args.ready.now.entries c.tasks.ready.entries c.args.steps.now c.tasks.steps) c.in_default.is c.tasks.invariant.serving) c.requires.of c.tasks.invariant.kept c.tasks.invariant.shrinks).ticks

pub returns-clause-few : goal.returns-clause-few
returns-clause-few g c = c.tasks.invariant.serving.few

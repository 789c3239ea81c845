use Rattle.std.proofs.Common.{Option, ℕ, ◌+◌, refl, sym, ◌∙◌, subst, arith}
use Rattle.await_tree.specs.WaitList.Waiting.{fired_keys}
use Rattle.await_tree.proofs.WaitListLemmas.Members.{within_self}
use Rattle.await_tree.proofs.WaitListLemmas.Rekeys.{narrows_none, narrows_through}
use Rattle.trigger_table.specs.Keys.{record_keys}
use Rattle.trigger_table.specs.Records.{causes_in, rows_in}
use Rattle.trigger_table.specs.Serving.{Trimming}
use Rattle.trigger_table.proofs.GoneLemmas.{fits_on, held_self, shrinks_self, shrinks_through}
use Rattle.trigger_table.proofs.RowLemmas.{held_then}
use Rattle.trigger_table.proofs.TrimLemmas.{trim_begins, trim_cause, trim_count, trim_ends, trim_faces, trim_goes, trim_has, trim_kept, trim_less, trim_link, trim_of, trim_stays}
use Rattle.trigger_table.proofs.parting.trim.Goals as goal

pub waiters-init : goal.waiters-init
waiters-init g c = record {
  trimming = trim_begins c.args.records.now c.args.number c.args.leaves.now c.requires.on.0 c.first_of_task-at.result c.requires.has c.requires.on.1 c.requires.on.2 c.first_of_task-at.ensures.value;
  needed = c.requires.needed;
  held = held_self (causes_in c.args.records.now);
  shrinks = shrinks_self (causes_in c.args.records.now);
  loaded = c.requires.loaded;
  fits = c.requires.fits;
  keys = narrows_none (g.K.Gpi.content c.args.kernel.now) (record_keys (causes_in c.args.records.now)) (record_keys (causes_in c.args.records.now)) (λ k h. c.requires.fits.keys.within k h) (within_self (record_keys (causes_in c.args.records.now)));
  ticks = omega arith;
}

pub next_of_task-at-requires-clause-has : goal.next_of_task-at-requires-clause-has
next_of_task-at-requires-clause-has g c =
    let t = subst (λ (o : Option ℕ). Trimming c.args.number c.args.leaves.now c.waiters.kept o (causes_in c.waiters.records) (rows_in c.args.records.now) (rows_in c.waiters.records)) c.in-Some.is c.waiters.invariant.trimming in
    trim_has c.args.number c.args.leaves.now c.waiters.kept c.in-Some.waiter (rows_in c.args.records.now) c.waiters.records t

pub next_of_task-at-requires-clause-of : goal.next_of_task-at-requires-clause-of
next_of_task-at-requires-clause-of g c =
    let t = subst (λ (o : Option ℕ). Trimming c.args.number c.args.leaves.now c.waiters.kept o (causes_in c.waiters.records) (rows_in c.args.records.now) (rows_in c.waiters.records)) c.in-Some.is c.waiters.invariant.trimming in
    trim_of c.args.number c.args.leaves.now c.waiters.kept c.in-Some.waiter (rows_in c.args.records.now) c.waiters.records t

pub part-requires-clause-has : goal.part-requires-clause-has
part-requires-clause-has g c =
    let t = subst (λ (o : Option ℕ). Trimming c.args.number c.args.leaves.now c.waiters.kept o (causes_in c.waiters.records) (rows_in c.args.records.now) (rows_in c.waiters.records)) c.in-Some.is c.waiters.invariant.trimming in
    trim_link c.args.number c.args.leaves.now c.waiters.kept c.in-Some.waiter (rows_in c.args.records.now) c.waiters.records t

pub waiters-preserved-then-is_on : goal.waiters-preserved-then-is_on
waiters-preserved-then-is_on g c =
    let t = subst (λ (o : Option ℕ). Trimming c.args.number c.args.leaves.now c.waiters.kept o (causes_in c.waiters.records) (rows_in c.args.records.now) (rows_in c.waiters.records)) c.in-Some.is c.waiters.invariant.trimming in
    let faces = trim_faces c.args.number c.args.leaves.now c.waiters.kept c.in-Some.waiter (rows_in c.args.records.now) c.waiters.records t in
    let first = sym (c.is_on.ensures.value c.args.number faces.link.cause faces.on
    (trim_has c.args.number c.args.leaves.now c.waiters.kept c.in-Some.waiter (rows_in c.args.records.now) c.waiters.records t)
    (trim_of c.args.number c.args.leaves.now c.waiters.kept c.in-Some.waiter (rows_in c.args.records.now) c.waiters.records t)
    (trim_cause c.args.number c.args.leaves.now c.waiters.kept c.in-Some.waiter (rows_in c.args.records.now) c.waiters.records t) faces.has)
    ∙ c.if-is_on.true in
    record {
      trimming = subst (λ (o : Option ℕ). Trimming c.args.number c.args.leaves.now (c.waiters.kept + 1) o (causes_in c.waiters.records) (rows_in c.args.records.now) (rows_in c.waiters.records)) (sym c.next_of_task-at.ensures.value)
          (trim_stays c.args.number c.args.leaves.now c.waiters.kept c.in-Some.waiter (rows_in c.args.records.now) c.waiters.records t first);
      needed = c.waiters.invariant.needed;
      held = c.waiters.invariant.held;
      shrinks = c.waiters.invariant.shrinks;
      loaded = c.waiters.invariant.loaded;
      fits = c.waiters.invariant.fits;
      keys = c.waiters.invariant.keys;
      ticks = omega (arith, c.waiters.invariant.ticks);
    }

pub waiters-preserved : goal.waiters-preserved
waiters-preserved g c =
    let t = subst (λ (o : Option ℕ). Trimming c.args.number c.args.leaves.now c.waiters.kept o (causes_in c.waiters.records) (rows_in c.args.records.now) (rows_in c.waiters.records)) c.in-Some.is c.waiters.invariant.trimming in
    let faces = trim_faces c.args.number c.args.leaves.now c.waiters.kept c.in-Some.waiter (rows_in c.args.records.now) c.waiters.records t in
    let off = sym (c.is_on.ensures.value c.args.number faces.link.cause faces.on
    (trim_has c.args.number c.args.leaves.now c.waiters.kept c.in-Some.waiter (rows_in c.args.records.now) c.waiters.records t)
    (trim_of c.args.number c.args.leaves.now c.waiters.kept c.in-Some.waiter (rows_in c.args.records.now) c.waiters.records t)
    (trim_cause c.args.number c.args.leaves.now c.waiters.kept c.in-Some.waiter (rows_in c.args.records.now) c.waiters.records t) faces.has)
    ∙ c.if-is_on.false in
    record {
      trimming = subst (λ (o : Option ℕ). Trimming c.args.number c.args.leaves.now c.waiters.kept o (causes_in c.part.new.records) (rows_in c.args.records.now) (rows_in c.part.new.records)) (sym c.next_of_task-at.ensures.value)
          (trim_goes c.args.number c.args.leaves.now c.waiters.kept c.in-Some.waiter (rows_in c.args.records.now) c.waiters.records t c.part.new.records c.part.ensures.rows c.part.ensures.shrinks off);
      needed = c.part.ensures.needed;
      held = held_then (causes_in c.args.records.now) (causes_in c.waiters.records) (causes_in c.part.new.records) c.waiters.invariant.held c.part.ensures.held;
      shrinks = shrinks_through (causes_in c.args.records.now) (causes_in c.waiters.records) (causes_in c.waiters.records) (causes_in c.part.new.records) c.waiters.invariant.shrinks refl c.part.ensures.shrinks;
      loaded = c.part.ensures.loaded;
      fits = fits_on (g.K.Gpi.content c.waiters.kernel) (g.K.Gpi.content c.part.new.kernel) (fired_keys c.args.fired) (causes_in c.waiters.records) (causes_in c.part.new.records) c.waiters.invariant.fits c.part.ensures.keys c.part.ensures.held;
      keys = narrows_through (g.K.Gpi.content c.args.kernel.now) (g.K.Gpi.content c.waiters.kernel) (g.K.Gpi.content c.part.new.kernel) (record_keys (causes_in c.args.records.now)) (record_keys (causes_in c.waiters.records)) (record_keys (causes_in c.part.new.records)) c.waiters.invariant.keys c.part.ensures.keys;
      ticks = omega (arith, c.waiters.invariant.ticks, trim_less c.args.number c.args.leaves.now c.waiters.kept c.in-Some.waiter (rows_in c.args.records.now) c.waiters.records t c.part.new.records c.part.ensures.rows c.part.ensures.shrinks);
    }

pub waiters-smaller-then-is_on : goal.waiters-smaller-then-is_on
waiters-smaller-then-is_on g c =
    let t = subst (λ (o : Option ℕ). Trimming c.args.number c.args.leaves.now c.waiters.kept o (causes_in c.waiters.records) (rows_in c.args.records.now) (rows_in c.waiters.records)) c.in-Some.is c.waiters.invariant.trimming in
    omega (arith, trim_count c.args.number c.args.leaves.now c.waiters.kept c.in-Some.waiter (rows_in c.args.records.now) c.waiters.records t)

pub waiters-smaller : goal.waiters-smaller
waiters-smaller g c =
    let t = subst (λ (o : Option ℕ). Trimming c.args.number c.args.leaves.now c.waiters.kept o (causes_in c.waiters.records) (rows_in c.args.records.now) (rows_in c.waiters.records)) c.in-Some.is c.waiters.invariant.trimming in
    omega (arith, trim_count c.args.number c.args.leaves.now c.waiters.kept c.in-Some.waiter (rows_in c.args.records.now) c.waiters.records t, trim_less c.args.number c.args.leaves.now c.waiters.kept c.in-Some.waiter (rows_in c.args.records.now) c.waiters.records t c.part.new.records c.part.ensures.rows c.part.ensures.shrinks)

pub returns-clause-trimmed : goal.returns-clause-trimmed
returns-clause-trimmed g c =
    trim_ends c.args.number c.args.leaves.now c.waiters.kept (causes_in c.waiters.records) (rows_in c.args.records.now) (rows_in c.waiters.records)
    (subst (λ (o : Option ℕ). Trimming c.args.number c.args.leaves.now c.waiters.kept o (causes_in c.waiters.records) (rows_in c.args.records.now) (rows_in c.waiters.records)) c.in_default.is c.waiters.invariant.trimming)

pub returns-clause-ticks : goal.returns-clause-ticks
returns-clause-ticks g c =
    let t = subst (λ (o : Option ℕ). Trimming c.args.number c.args.leaves.now c.waiters.kept o (causes_in c.waiters.records) (rows_in c.args.records.now) (rows_in c.waiters.records)) c.in_default.is c.waiters.invariant.trimming in
    omega (arith, c.waiters.invariant.ticks, trim_kept c.args.number c.args.leaves.now c.waiters.kept (rows_in c.args.records.now) c.waiters.records t)

use Rattle.std.proofs.Common.{[], List, length, refl, sym, ap, ◌∙◌, subst, arith}
use Rattle.gpi.specs.declared.types.Key.{Key}
use Rattle.await_tree.specs.WaitList.Parts.{Fits}
use Rattle.trigger_table.specs.Keys.{record_keys, runner_keys}
use Rattle.trigger_table.specs.Records.{causes_in, rows_in, state_in}
use Rattle.trigger_table.specs.State.{Row, links_of}
use Rattle.trigger_table.specs.Tied.{waiting_in}
use Rattle.await_tree.proofs.WaitListLemmas.Members.{within_self}
use Rattle.await_tree.proofs.WaitListLemmas.Rekeys.{narrows_none, narrows_through}
use Rattle.trigger_table.proofs.GoneLemmas.{fits_on, held_self, shrinks_self, shrinks_through}
use Rattle.trigger_table.proofs.RowLemmas.{held_then}
use Rattle.trigger_table.proofs.CallLemmas.{dropped_kept, first_row, less_work, links_counted, no_row, tasks_counted}
use Rattle.trigger_table.proofs.TieLemmas.{needed_of}
use Rattle.trigger_table.proofs.table.clear.Goals as goal

pub tasks-init : goal.tasks-init
tasks-init g c = record {
  kept = c.requires.kept;
  held = held_self (causes_in c.args.records.now);
  shrinks = shrinks_self (causes_in c.args.records.now);
  few = omega arith;
  loaded = c.requires.loaded;
  fits = c.requires.fits;
  keys = narrows_none (g.K.Gpi.content c.args.kernel.now) (record_keys (causes_in c.args.records.now)) (record_keys (causes_in c.args.records.now)) (λ k h. c.requires.fits.keys.within k h) (within_self (record_keys (causes_in c.args.records.now)));
  ticks = omega arith;
}

pub forget_row-requires : goal.forget_row-requires
forget_row-requires g c = record {
  loaded = c.tasks.invariant.loaded;
  has = first_row (rows_in c.tasks.records) c.in-Some.number (sym c.in-Some.is ∙ c.first_task.ensures.value);
  needed = needed_of (state_in c.tasks.records) c.tasks.invariant.kept;
  fits = subst (λ (ks : List Key). Fits (g.K.Gpi.content c.tasks.kernel) ks (runner_keys (causes_in c.tasks.records)) (record_keys (causes_in c.tasks.records))) (sym c.none_fired-none.ensures) c.tasks.invariant.fits;
}

pub tasks-smaller : goal.tasks-smaller
tasks-smaller g c =
    let less = less_work c.in-Some.number (rows_in c.tasks.records) (first_row (rows_in c.tasks.records) c.in-Some.number (sym c.in-Some.is ∙ c.first_task.ensures.value)) in
    omega (arith, less.tasks, ap (λ (rs : List Row). length rs) c.forget_row.ensures.rows)

pub tasks-preserved : goal.tasks-preserved
tasks-preserved g c =
    let less = less_work c.in-Some.number (rows_in c.tasks.records) (first_row (rows_in c.tasks.records) c.in-Some.number (sym c.in-Some.is ∙ c.first_task.ensures.value)) in
    record {
      kept = dropped_kept c.in-Some.number (state_in c.tasks.records) c.forget_row.new.records c.forget_row.ensures.rows c.forget_row.ensures.shrinks c.forget_row.ensures.needed c.tasks.invariant.kept;
      held = held_then (causes_in c.args.records.now) (causes_in c.tasks.records) (causes_in c.forget_row.new.records) c.tasks.invariant.held c.forget_row.ensures.held;
      shrinks = shrinks_through (causes_in c.args.records.now) (causes_in c.tasks.records) (causes_in c.tasks.records) (causes_in c.forget_row.new.records) c.tasks.invariant.shrinks refl c.forget_row.ensures.shrinks;
      few = omega (arith, less.tasks, ap (λ (rs : List Row). length rs) c.forget_row.ensures.rows);
      loaded = c.forget_row.ensures.loaded;
      fits = fits_on (g.K.Gpi.content c.tasks.kernel) (g.K.Gpi.content c.forget_row.new.kernel) [] (causes_in c.tasks.records) (causes_in c.forget_row.new.records) c.tasks.invariant.fits c.forget_row.ensures.keys c.forget_row.ensures.held;
      keys = narrows_through (g.K.Gpi.content c.args.kernel.now) (g.K.Gpi.content c.tasks.kernel) (g.K.Gpi.content c.forget_row.new.kernel) (record_keys (causes_in c.args.records.now)) (record_keys (causes_in c.tasks.records)) (record_keys (causes_in c.forget_row.new.records)) c.tasks.invariant.keys c.forget_row.ensures.keys;
      ticks = omega (arith, less.tasks, less.links, ap (λ (rs : List Row). length rs) c.forget_row.ensures.rows, ap (λ (rs : List Row). length (links_of rs)) c.forget_row.ensures.rows);
    }

pub returns-clause-waiting : goal.returns-clause-waiting
returns-clause-waiting g c = ap waiting_in (no_row (rows_in c.tasks.records) (sym c.in_default.is ∙ c.first_task.ensures.value))

pub returns-clause-ticks : goal.returns-clause-ticks
returns-clause-ticks g c = omega (arith, links_counted (state_in c.args.records.now) c.requires.kept, tasks_counted (state_in c.args.records.now) c.requires.kept)

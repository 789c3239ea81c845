use Rattle.std.proofs.Common.{length, refl, sym, ap, ◌∙◌, subst, arith, List, Option}
use Rattle.await_tree.specs.WaitList.Waiting.{fired_keys}
use Rattle.trigger_table.specs.Keys.{record_keys, runner_keys}
use Rattle.await_tree.specs.WaitList.Parts.{Fits, Narrows}
use Rattle.trigger_table.specs.Records.{causes_in, rows_in, state_in}
use Rattle.trigger_table.specs.State.{Row, links_at, without_row, entry_at, HasRow, HeldStays}
use Rattle.trigger_table.specs.declared.entries.CauseRecord.{CauseRecord}
use Rattle.trigger_table.proofs.EntryLemmas.{rows_apart}
use Rattle.trigger_table.proofs.GoneLemmas.{fits_on, held_self, shrinks_self, shrinks_through}
use Rattle.await_tree.proofs.WaitListLemmas.Members.{within_self}
use Rattle.await_tree.proofs.WaitListLemmas.Rekeys.{narrows_none, narrows_through}
use Rattle.trigger_table.proofs.RowLemmas.{fewer_by, has_no_links, all_needed, needed_after, held_step, held_along}
use Rattle.trigger_table.proofs.table.drop_row.Goals as goal

pub links-init : goal.links-init
links-init g c = record {
  has = c.requires.has;
  entry = refl;
  rows = refl;
  needed = c.requires.needed;
  held = held_self (causes_in c.args.records.now);
  shrinks = shrinks_self (causes_in c.args.records.now);
  loaded = c.requires.loaded;
  fits = c.requires.fits;
  keys = narrows_none (g.K.Gpi.content c.args.kernel.now) (record_keys (causes_in c.args.records.now)) (record_keys (causes_in c.args.records.now)) (λ k h. c.requires.fits.keys.within k h) (within_self (record_keys (causes_in c.args.records.now)));
  ticks = omega arith;
}

pub let_go-requires-clause-fits : goal.let_go-requires-clause-fits
let_go-requires-clause-fits g c =
    subst (λ (cs : List (Option CauseRecord)). Fits (g.K.Gpi.content c.links.kernel) (fired_keys c.args.fired) (runner_keys cs) (record_keys cs)) (sym c.pop.ensures.causes) c.links.invariant.fits

pub links-smaller : goal.links-smaller
links-smaller g c =
    let less = fewer_by c.args.number (rows_in c.links.records) (rows_in c.pop.new.self) _ c.in-Some.ensures.some.1 c.in-Some.ensures.some.2 c.in-Some.ensures.rows in
    omega (arith, less.fewer, ap (λ (rows : List Row). length (links_at c.args.number rows)) c.let_go.ensures.rows)

pub links-preserved : goal.links-preserved
links-preserved g c =
    let less = fewer_by c.args.number (rows_in c.links.records) (rows_in c.pop.new.self) _ c.in-Some.ensures.some.1 c.in-Some.ensures.some.2 c.in-Some.ensures.rows in
    let same = c.let_go.ensures.rows in
    let step : Narrows (g.K.Gpi.content c.links.kernel) (g.K.Gpi.content c.let_go.new.kernel) (record_keys (causes_in c.links.records)) (record_keys (causes_in c.let_go.new.records)) =
    subst (λ (cs : List (Option CauseRecord)). Narrows (g.K.Gpi.content c.links.kernel) (g.K.Gpi.content c.let_go.new.kernel) (record_keys cs) (record_keys (causes_in c.let_go.new.records))) c.pop.ensures.causes c.let_go.ensures.keys in
    let held_now : HeldStays (causes_in c.links.records) (causes_in c.let_go.new.records) =
    held_step c.in-Some.cause (causes_in c.links.records) (state_in c.pop.new.self) (state_in c.let_go.new.records) (held_along _ _ _ (held_self (causes_in c.links.records)) (sym c.pop.ensures.causes)) c.let_go.ensures.others c.let_go.ensures.stays in
    record {
      has = subst (HasRow c.args.number) (sym same) (less.has c.links.invariant.has);
      entry = ap (entry_at c.args.number) same ∙ less.entry ∙ c.links.invariant.entry;
      rows = ap (without_row c.args.number) same ∙ less.rows ∙ c.links.invariant.rows;
      needed = all_needed c.args.number c.in-Some.cause (state_in c.links.records) (state_in c.pop.new.self) (state_in c.let_go.new.records) _ c.in-Some.ensures.some.1 (rows_apart c.links.records) c.in-Some.ensures.some.2 refl c.in-Some.ensures.rows c.pop.ensures.causes same c.let_go.ensures.others c.let_go.ensures.needed c.links.invariant.needed;
      held = held_step c.in-Some.cause (causes_in c.args.records.now) (state_in c.pop.new.self) (state_in c.let_go.new.records) (held_along _ _ _ c.links.invariant.held (sym c.pop.ensures.causes)) c.let_go.ensures.others c.let_go.ensures.stays;
      shrinks = shrinks_through (causes_in c.args.records.now) (causes_in c.links.records) (causes_in c.pop.new.self) (causes_in c.let_go.new.records) c.links.invariant.shrinks c.pop.ensures.causes c.let_go.ensures.shrinks;
      loaded = c.let_go.ensures.loaded;
      fits = fits_on (g.K.Gpi.content c.links.kernel) (g.K.Gpi.content c.let_go.new.kernel) (fired_keys c.args.fired) (causes_in c.links.records) (causes_in c.let_go.new.records) c.links.invariant.fits step held_now;
      keys = narrows_through (g.K.Gpi.content c.args.kernel.now) (g.K.Gpi.content c.links.kernel) (g.K.Gpi.content c.let_go.new.kernel) (record_keys (causes_in c.args.records.now)) (record_keys (causes_in c.links.records)) (record_keys (causes_in c.let_go.new.records)) c.links.invariant.keys step;
      ticks = omega (arith, less.fewer, ap (λ (rows : List Row). length (links_at c.args.number rows)) same);
    }

pub remove_task-requires : goal.remove_task-requires
remove_task-requires g c =
    rw (c.in_default.ensures.same) (has_no_links c.args.number (rows_in c.links.records) c.links.invariant.has c.in_default.ensures.none)

pub returns-clause-needed : goal.returns-clause-needed
returns-clause-needed g c =
    needed_after c.args.number (state_in c.links.records) (state_in c.pop.new.self) (state_in c.remove_task.new.self) (rows_apart c.links.records) c.in_default.ensures.none c.in_default.ensures.same c.pop.ensures.causes c.remove_task.ensures.rows c.remove_task.ensures.causes c.links.invariant.needed

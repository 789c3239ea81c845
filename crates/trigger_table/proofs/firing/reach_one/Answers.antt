use Rattle.std.proofs.Common.{List, Option, length, refl, sym, ap, ◌∙◌, ◌++◌, arith, append-nil}
use Rattle.gpi.specs.declared.types.Key.{Key}
use Rattle.await_tree.specs.WaitList.Waiting.{all_waiting, all_woken, key_list}
use Rattle.await_tree.specs.declared.cause.Cause.TheVariants as cause
use Rattle.await_tree.specs.WaitList.Waiting.{woken}
use Rattle.await_tree.specs.declared.wait_list.ready.Entry.{Entry}
use Rattle.await_tree.proofs.WaitListLemmas.Members.{within_self}
use Rattle.await_tree.proofs.WaitListLemmas.Rekeys.{narrows_none}
use Rattle.trigger_table.specs.Keys.{record_keys}
use Rattle.trigger_table.specs.Records.{causes_in, rows_in}
use Rattle.trigger_table.specs.Tied.{waiting_in}
use Rattle.trigger_table.specs.Work.{fired_work}
use Rattle.trigger_table.proofs.GoneLemmas.{held_self, shrinks_self}
use Rattle.trigger_table.proofs.firing.reach_one.Goals as goal

pub returns-in-Some-clause-waiting : goal.returns-in-Some-clause-waiting
returns-in-Some-clause-waiting g c = c.reach.ensures.waiting ∙ ap (λ (o : Option Key). all_waiting (key_list o) (waiting_in (rows_in c.args.records.now))) (sym c.in-Some.is)

pub returns-in-Some-clause-ready : goal.returns-in-Some-clause-ready
returns-in-Some-clause-ready g c =
    c.reach.ensures.ready ∙ ap (λ (es : List Entry). c.args.ready.now.entries ++ es) (sym (append-nil (woken (cause.Key c.in-Some.key) (waiting_in (rows_in c.args.records.now)))))
    ∙ ap (λ (o : Option Key). c.args.ready.now.entries ++ all_woken (key_list o) (waiting_in (rows_in c.args.records.now))) (sym c.in-Some.is)

pub returns-in-Some-clause-ticks : goal.returns-in-Some-clause-ticks
returns-in-Some-clause-ticks g c =
    omega (arith, c.reach.ensures.ticks, ap (λ (o : Option Key). length (key_list o)) c.in-Some.is, ap (λ (o : Option Key). fired_work (key_list o) (waiting_in (rows_in c.args.records.now))) c.in-Some.is)

pub returns-in_default : goal.returns-in_default
returns-in_default g c = record {
  waiting = ap (λ (o : Option Key). all_waiting (key_list o) (waiting_in (rows_in c.args.records.now))) (sym c.in_default.is);
  ready = sym (append-nil c.args.ready.now.entries) ∙ ap (λ (o : Option Key). c.args.ready.now.entries ++ all_woken (key_list o) (waiting_in (rows_in c.args.records.now))) (sym c.in_default.is);
  room = refl;
  kept = c.requires.kept;
  held = held_self (causes_in c.args.records.now);
  shrinks = shrinks_self (causes_in c.args.records.now);
  few = omega arith;
  loaded = c.requires.loaded;
  keys = narrows_none (g.K.Gpi.content c.args.kernel.now) (record_keys (causes_in c.args.records.now)) (record_keys (causes_in c.args.records.now)) (λ k h. c.requires.fits.keys.within k h) (within_self (record_keys (causes_in c.args.records.now)));
  ticks = omega (arith, ap (λ (o : Option Key). length (key_list o)) c.in_default.is);
}

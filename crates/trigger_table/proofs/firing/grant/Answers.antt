use Rattle.std.proofs.Common.{◌++◌, refl, sym, ap, ◌∙◌, arith, append-nil}
use Rattle.await_tree.specs.WaitList.Waiting.{Granted}
use Rattle.await_tree.proofs.WaitListLemmas.Members.{within_self}
use Rattle.await_tree.proofs.WaitListLemmas.Rekeys.{narrows_none}
use Rattle.trigger_table.specs.Keys.{record_keys}
use Rattle.trigger_table.specs.Records.{causes_in, rows_in, state_in}
use Rattle.trigger_table.specs.Tied.{waiting_in}
use Rattle.trigger_table.proofs.FireLemmas.{nothing_granted, unwanted}
use Rattle.trigger_table.proofs.GoneLemmas.{held_self, shrinks_self}
use Rattle.trigger_table.proofs.ServeLemmas.{unrecorded_off}
use Rattle.trigger_table.proofs.firing.grant.Goals as goal

pub grant_on-requires-clause-of : goal.grant_on-requires-clause-of
grant_on-requires-clause-of g c = c.in-Some.ensures.some

pub returns-in-None : goal.returns-in-None
returns-in-None g c =
    let u = unwanted c.args.lock (waiting_in (rows_in c.args.records.now)) (unrecorded_off _ (state_in c.args.records.now) c.requires.kept c.in-None.ensures.none) in
    let none = nothing_granted c.args.lock (waiting_in (rows_in c.args.records.now)) u in
    record {
      answer = sym u.none;
      waiting = sym (ap (λ (x : Granted). x.waiting) none);
      ready = sym (append-nil c.args.ready.now.entries) ∙ ap (λ (x : Granted). c.args.ready.now.entries ++ x.entries) (sym none);
      room = refl;
      kept = c.requires.kept;
      held = held_self (causes_in c.args.records.now);
      shrinks = shrinks_self (causes_in c.args.records.now);
      few = omega arith;
      loaded = c.requires.loaded;
      keys = narrows_none (g.K.Gpi.content c.args.kernel.now) (record_keys (causes_in c.args.records.now)) (record_keys (causes_in c.args.records.now)) (λ k h. c.requires.fits.keys.within k h) (within_self (record_keys (causes_in c.args.records.now)));
      ticks = omega (arith, c.find.ensures.ticks);
    }

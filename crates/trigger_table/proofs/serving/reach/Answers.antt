use Rattle.std.proofs.Common.{List, length, refl, sym, ap, ◌∙◌, ◌++◌, subst, arith, append-nil}
use Rattle.await_tree.specs.declared.wait_list.ready.Entry.{Entry}
use Rattle.await_tree.proofs.WaitListLemmas.Members.{within_self}
use Rattle.await_tree.proofs.WaitListLemmas.Rekeys.{narrows_none}
use Rattle.trigger_table.specs.Entries.{HasCause}
use Rattle.trigger_table.specs.Keys.{record_keys}
use Rattle.trigger_table.specs.Records.{causes_in, state_in}
use Rattle.trigger_table.proofs.GoneLemmas.{held_self, shrinks_self}
use Rattle.trigger_table.proofs.ServeLemmas.{nobody_reached}
use Rattle.trigger_table.proofs.serving.reach.Goals as goal

pub serve-requires-clause-of : goal.serve-requires-clause-of
serve-requires-clause-of g c = subst (HasCause (causes_in c.args.records.now) c.in-Some.number) c.reach.ensures c.in-Some.ensures.some

pub returns-in-None : goal.returns-in-None
returns-in-None g c =
    let q = nobody_reached c.args.cause (state_in c.args.records.now) c.requires.kept (λ k has. c.in-None.ensures.none k (subst (HasCause (causes_in c.args.records.now) k) (sym c.reach.ensures) has)) in
    record {
      answer = sym (ap length q.none);
      waiting = sym q.still;
      ready = sym (append-nil c.args.ready.now.entries) ∙ ap (λ (es : List Entry). c.args.ready.now.entries ++ es) (sym q.none_woken);
      room = refl;
      kept = c.requires.kept;
      held = held_self (causes_in c.args.records.now);
      shrinks = shrinks_self (causes_in c.args.records.now);
      few = omega arith;
      loaded = c.requires.loaded;
      keys = narrows_none (g.K.Gpi.content c.args.kernel.now) (record_keys (causes_in c.args.records.now)) (record_keys (causes_in c.args.records.now)) (λ k h. c.requires.fits.keys.within k h) (within_self (record_keys (causes_in c.args.records.now)));
      ticks = omega (arith, c.find.ensures.ticks);
    }

use Rattle.std.proofs.Common.{◌++◌, List, refl, sym, ap, ◌∙◌, subst, arith, append-nil}
use Rattle.gpi.specs.declared.types.Key.{Key}
use Rattle.await_tree.specs.WaitList.Parts.{Fits}
use Rattle.await_tree.specs.WaitList.Waiting.{Granted}
use Rattle.await_tree.proofs.WaitListLemmas.Members.{within_self}
use Rattle.await_tree.proofs.WaitListLemmas.Rekeys.{narrows_none}
use Rattle.trigger_table.specs.Keys.{record_keys, runner_keys}
use Rattle.trigger_table.specs.Records.{causes_in, rows_in}
use Rattle.trigger_table.specs.Tied.{waiting_in}
use Rattle.trigger_table.proofs.FireLemmas.{nothing_granted}
use Rattle.trigger_table.proofs.GoneLemmas.{held_self, shrinks_self}
use Rattle.trigger_table.proofs.GrantLemmas.{hand_hands, hand_has, hand_some, hand_waits, hand_work, nobody_wants}
use Rattle.trigger_table.proofs.firing.grant_on.Goals as goal

pub hand-requires-clause-has : goal.hand-requires-clause-has
hand-requires-clause-has g c = hand_has c.args.lock c.args.cause c.in-Some.member c.args.records.now c.requires.kept c.requires.of (sym c.in-Some.is ∙ c.first_member.ensures.value)

pub hand-requires-clause-some : goal.hand-requires-clause-some
hand-requires-clause-some g c = hand_some c.args.lock c.args.cause c.in-Some.member c.args.records.now c.requires.kept c.requires.of (sym c.in-Some.is ∙ c.first_member.ensures.value)

pub hand-requires-clause-room : goal.hand-requires-clause-room
hand-requires-clause-room g c = omega (arith, c.requires.room, hand_waits c.args.lock c.args.cause c.in-Some.member c.args.records.now c.requires.kept c.requires.of (sym c.in-Some.is ∙ c.first_member.ensures.value))

pub hand-requires-clause-fits : goal.hand-requires-clause-fits
hand-requires-clause-fits g c = subst (λ (ks : List Key). Fits (g.K.Gpi.content c.args.kernel.now) ks (runner_keys (causes_in c.args.records.now)) (record_keys (causes_in c.args.records.now))) (sym c.none_fired-none.ensures) c.requires.fits

pub returns-in-Some-clause-answer : goal.returns-in-Some-clause-answer
returns-in-Some-clause-answer g c =
    sym (hand_hands c.args.lock c.args.cause c.in-Some.member c.args.records.now c.requires.kept c.requires.of (sym c.in-Some.is ∙ c.first_member.ensures.value) c.hand.new.records c.args.ready.now.entries c.hand.new.ready.entries c.hand.ensures.served c.hand.ensures.kept c.hand.ensures.ready).wanted

pub returns-in-Some-clause-waiting : goal.returns-in-Some-clause-waiting
returns-in-Some-clause-waiting g c =
    (hand_hands c.args.lock c.args.cause c.in-Some.member c.args.records.now c.requires.kept c.requires.of (sym c.in-Some.is ∙ c.first_member.ensures.value) c.hand.new.records c.args.ready.now.entries c.hand.new.ready.entries c.hand.ensures.served c.hand.ensures.kept c.hand.ensures.ready).waiting

pub returns-in-Some-clause-ready : goal.returns-in-Some-clause-ready
returns-in-Some-clause-ready g c =
    (hand_hands c.args.lock c.args.cause c.in-Some.member c.args.records.now c.requires.kept c.requires.of (sym c.in-Some.is ∙ c.first_member.ensures.value) c.hand.new.records c.args.ready.now.entries c.hand.new.ready.entries c.hand.ensures.served c.hand.ensures.kept c.hand.ensures.ready).ready

pub returns-in-Some-clause-few : goal.returns-in-Some-clause-few
returns-in-Some-clause-few g c =
    (hand_hands c.args.lock c.args.cause c.in-Some.member c.args.records.now c.requires.kept c.requires.of (sym c.in-Some.is ∙ c.first_member.ensures.value) c.hand.new.records c.args.ready.now.entries c.hand.new.ready.entries c.hand.ensures.served c.hand.ensures.kept c.hand.ensures.ready).few

pub returns-in-Some-clause-ticks : goal.returns-in-Some-clause-ticks
returns-in-Some-clause-ticks g c =
    omega (arith, c.first_member.ensures.ticks, c.hand.ensures.ticks, hand_work c.args.lock c.args.cause c.in-Some.member c.args.records.now c.requires.kept c.requires.of (sym c.in-Some.is ∙ c.first_member.ensures.value))

pub returns-in-None : goal.returns-in-None
returns-in-None g c =
    let u = nobody_wants c.args.lock c.args.cause c.args.records.now c.requires.kept c.requires.of (sym c.in-None.is ∙ c.first_member.ensures.value) in
    let none = nothing_granted c.args.lock (waiting_in (rows_in c.args.records.now)) u in
    record {
      answer = sym u.none;
      waiting = sym (ap (λ (x : Granted). x.waiting) none);
      ready = sym (append-nil c.args.ready.now.entries) ∙ ap (λ (x : Granted). c.args.ready.now.entries ++ x.entries) (sym none);
      room = refl;
      kept = c.requires.kept;
      held = held_self (causes_in c.args.records.now);
      shrinks = shrinks_self (causes_in c.args.records.now);
      few = omega arith;
      loaded = c.requires.loaded;
      keys = narrows_none (g.K.Gpi.content c.args.kernel.now) (record_keys (causes_in c.args.records.now)) (record_keys (causes_in c.args.records.now)) (λ k h. c.requires.fits.keys.within k h) (within_self (record_keys (causes_in c.args.records.now)));
      ticks = omega (arith, c.first_member.ensures.ticks);
    }

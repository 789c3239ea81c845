use Rattle.std.proofs.Common.{Option, length, sym, ap, ◌∙◌, subst, arith}
use Rattle.gpi.specs.Keys.{among}
use Rattle.gpi.specs.declared.types.Key.{Key}
use Rattle.std.proofs.lemmas.Bool.{false≢true}
use Rattle.await_tree.specs.WaitList.Keys.{AreAlike, without_all}
use Rattle.await_tree.specs.WaitList.Waiting.{key_list}
use Rattle.await_tree.proofs.WaitListLemmas.Awaited.{some_key}
use Rattle.await_tree.proofs.WaitListLemmas.Members.{within_self}
use Rattle.await_tree.proofs.WaitListLemmas.Rekeys.{narrows_none}
use Rattle.trigger_table.specs.Keys.{record_keys, runner_keys}
use Rattle.trigger_table.specs.Records.{causes_in}
use Rattle.trigger_table.proofs.firing.unhold_one.Goals as goal

pub unhold-requires-clause-there : goal.unhold-requires-clause-there
unhold-requires-clause-there g c off = absurd (false≢true (sym off ∙ c.requires.fired c.in-Some.key (some_key c.args.key c.in-Some.key c.in-Some.is)))

pub returns-in-Some-clause-held : goal.returns-in-Some-clause-held
returns-in-Some-clause-held g c =
    subst (λ (o : Option Key). AreAlike (runner_keys (causes_in c.unhold.new.records)) (without_all (key_list o) (runner_keys (causes_in c.args.records.now)))) (sym c.in-Some.is) c.unhold.ensures.held

pub returns-in-Some-clause-ticks : goal.returns-in-Some-clause-ticks
returns-in-Some-clause-ticks g c = omega (arith, c.unhold.ensures.ticks, ap (λ (o : Option Key). length (key_list o)) c.in-Some.is)

pub returns-in_default-clause-held : goal.returns-in_default-clause-held
returns-in_default-clause-held g c k = ap (λ (o : Option Key). among k (without_all (key_list o) (runner_keys (causes_in c.args.records.now)))) (sym c.in_default.is)

pub returns-in_default-clause-keys : goal.returns-in_default-clause-keys
returns-in_default-clause-keys g c = narrows_none (g.K.Gpi.content c.args.kernel.now) (record_keys (causes_in c.args.records.now)) (record_keys (causes_in c.args.records.now)) (λ k h. c.requires.fits.keys.within k h) (within_self (record_keys (causes_in c.args.records.now)))

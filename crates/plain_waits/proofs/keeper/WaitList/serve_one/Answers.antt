use Rattle.std.proofs.Common.{List, ◌++◌, sym, ap, ◌∙◌, append-nil}
use Rattle.gpi.specs.declared.types.Key.{Key}
use Rattle.await_tree.specs.declared.cause.Cause.TheVariants as cause
use Rattle.await_tree.specs.WaitList.Waiting.{all_waiting, all_woken, woken}
use Rattle.await_tree.specs.declared.wait_list.ready.Entry.{Entry}
use Rattle.plain_waits.specs.Kept.{names_of, waiting_in}
use Rattle.await_tree.proofs.WaitListLemmas.Members.{within_self}
use Rattle.await_tree.proofs.WaitListLemmas.Rekeys.{narrows_none}
use Rattle.plain_waits.proofs.Walks.{none_list, some_list}
use Rattle.plain_waits.proofs.keeper.WaitList.serve_one.Goals as goal

pub returns-in-Some-clause-waiting : goal.returns-in-Some-clause-waiting
returns-in-Some-clause-waiting g c = c.serve.ensures.waiting ∙ ap (λ (o : List Key). all_waiting o (waiting_in c.args.self.now)) (sym (some_list c.args.key c.in-Some.key c.in-Some.is))

pub returns-in-Some-clause-ready : goal.returns-in-Some-clause-ready
returns-in-Some-clause-ready g c = c.serve.ensures.ready ∙ ap (λ (es : List Entry). c.args.ready.now.entries ++ es) (sym (append-nil (woken (cause.Key c.in-Some.key) (waiting_in c.args.self.now))) ∙ ap (λ (o : List Key). all_woken o (waiting_in c.args.self.now)) (sym (some_list c.args.key c.in-Some.key c.in-Some.is)))

pub returns-in_default-clause-waiting : goal.returns-in_default-clause-waiting
returns-in_default-clause-waiting g c = ap (λ (o : List Key). all_waiting o (waiting_in c.args.self.now)) (sym (none_list c.args.key c.in_default.is))

pub returns-in_default-clause-ready : goal.returns-in_default-clause-ready
returns-in_default-clause-ready g c = sym (ap (λ (o : List Key). c.args.ready.now.entries ++ all_woken o (waiting_in c.args.self.now)) (none_list c.args.key c.in_default.is) ∙ append-nil c.args.ready.now.entries)

pub returns-in_default-clause-keys : goal.returns-in_default-clause-keys
returns-in_default-clause-keys g c = narrows_none (g.K.Gpi.content c.args.kernel.now) (names_of c.args.self.now) (names_of c.args.self.now) (λ k h. c.requires.fits.keys.within k h) (within_self (names_of c.args.self.now))

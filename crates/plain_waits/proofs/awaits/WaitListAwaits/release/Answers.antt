use Rattle.std.proofs.Common.{List, [], sym, ap, ◌∙◌, subst}
use Rattle.gpi.specs.Keys.{among}
use Rattle.await_tree.specs.WaitList.Keys.{Rekeyed}
use Rattle.await_tree.specs.WaitList.Waiting.{Waiting, keys_of, named}
use Rattle.plain_waits.specs.Kept.{names_of, waiting_in}
use Rattle.await_tree.proofs.WaitListLemmas.Awaited.{released_gone, released_waited}
use Rattle.plain_waits.proofs.Calls.{waiting_same}
use Rattle.plain_waits.proofs.awaits.WaitListAwaits.release.Goals as goal

pub remove-requires-clause-there : goal.remove-requires-clause-there
remove-requires-clause-there g c = c.requires.registered

pub returns-then-not-is_waited-clause-held : goal.returns-then-not-is_waited-clause-held
returns-then-not-is_waited-clause-held g c = λ k. ap (among k) c.take_out.ensures.held

pub returns-else-not-is_waited-clause-held : goal.returns-else-not-is_waited-clause-held
returns-else-not-is_waited-clause-held g c = λ k. ap (among k) c.take_out.ensures.held

pub returns-then-not-is_waited-clause-waiting : goal.returns-then-not-is_waited-clause-waiting
returns-then-not-is_waited-clause-waiting g c = waiting_same c.take_out.new.self c.args.self.now c.take_out.ensures.waiting

pub returns-else-not-is_waited-clause-waiting : goal.returns-else-not-is_waited-clause-waiting
returns-else-not-is_waited-clause-waiting g c = waiting_same c.take_out.new.self c.args.self.now c.take_out.ensures.waiting

pub returns-then-not-is_waited-clause-keys : goal.returns-then-not-is_waited-clause-keys
returns-then-not-is_waited-clause-keys g c = subst (λ (xs : List Waiting). Rekeyed (g.K.Gpi.content c.args.kernel.now) (g.K.Gpi.content c.remove.new.self) [] (names_of c.args.self.now) (named xs c.take_out.new.self.held.items)) (sym (waiting_same c.take_out.new.self c.args.self.now c.take_out.ensures.waiting))
    (released_gone (g.K.Gpi.content c.args.kernel.now) c.args.key c.args.self.now.held.items c.take_out.new.self.held.items (waiting_in c.args.self.now) c.take_out.ensures.held c.requires.there c.requires.registered c.requires.keys (g.K.Gpi.content c.remove.new.self) (ap (λ (xs : List Waiting). among c.args.key (keys_of xs)) (sym (waiting_same c.take_out.new.self c.args.self.now c.take_out.ensures.waiting)) ∙ sym c.is_waited.ensures ∙ c.if-not-is_waited.true) c.remove.ensures.is)

pub returns-else-not-is_waited-clause-keys : goal.returns-else-not-is_waited-clause-keys
returns-else-not-is_waited-clause-keys g c = subst (λ (xs : List Waiting). Rekeyed (g.K.Gpi.content c.args.kernel.now) (g.K.Gpi.content c.args.kernel.now) [] (names_of c.args.self.now) (named xs c.take_out.new.self.held.items)) (sym (waiting_same c.take_out.new.self c.args.self.now c.take_out.ensures.waiting))
    (released_waited (g.K.Gpi.content c.args.kernel.now) c.args.key c.args.self.now.held.items c.take_out.new.self.held.items (waiting_in c.args.self.now) c.take_out.ensures.held c.requires.there c.requires.registered c.requires.keys (ap (λ (xs : List Waiting). among c.args.key (keys_of xs)) (sym (waiting_same c.take_out.new.self c.args.self.now c.take_out.ensures.waiting)) ∙ sym c.is_waited.ensures ∙ c.if-not-is_waited.false))

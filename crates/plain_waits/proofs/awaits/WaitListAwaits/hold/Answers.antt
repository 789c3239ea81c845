use Rattle.std.proofs.Common.{List, [], ◌∷◌, ◌++◌, sym, ap, ◌∙◌}
use Rattle.gpi.specs.declared.types.Key.{Key}
use Rattle.plain_waits.specs.Kept.{waiting_in}
use Rattle.await_tree.proofs.WaitListLemmas.Awaited.{held_joined, held_push, held_there}
use Rattle.plain_waits.proofs.awaits.WaitListAwaits.hold.Goals as goal

pub register_unless-requires-clause-there : goal.register_unless-requires-clause-there
register_unless-requires-clause-there g c = held_there (g.K.Gpi.content c.args.kernel.now) c.args.key c.args.self.now.held.items (waiting_in c.args.self.now) c.requires.new c.requires.keys ∙ sym c.is_waited-waited.ensures

pub register_unless-requires-clause-asked : goal.register_unless-requires-clause-asked
register_unless-requires-clause-asked g c = λ e. c.requires.asked (held_there (g.K.Gpi.content c.args.kernel.now) c.args.key c.args.self.now.held.items (waiting_in c.args.self.now) c.requires.new c.requires.keys ∙ sym c.is_waited-waited.ensures ∙ e)

pub returns-clause-ok : goal.returns-clause-ok
returns-clause-ok g c = held_push c.args.key c.args.self.now.held.items c.push_reserved.new.self.items (c.push_reserved.ensures.items ∙ ap (λ (xs : List Key). xs ++ c.args.key ∷ []) c.reserve.ensures.items)

pub returns-clause-keys : goal.returns-clause-keys
returns-clause-keys g c = held_joined (g.K.Gpi.content c.args.kernel.now) (g.K.Gpi.content c.register_unless.new.kernel) c.args.key c.args.self.now.held.items c.push_reserved.new.self.items (waiting_in c.args.self.now) (c.push_reserved.ensures.items ∙ ap (λ (xs : List Key). xs ++ c.args.key ∷ []) c.reserve.ensures.items) c.requires.keys c.in_ok-register_unless.ensures.ok

use Rattle.std.proofs.Common.{sym, ◌∙◌}
use Rattle.std.proofs.lemmas.Result.{on_ok_weaker}
use Rattle.gpi.specs.declared.types.Key.TheVariants.{At}
use Rattle.await_tree.specs.declared.cause.Awaited.TheVariants as awaited
use Rattle.plain_waits.specs.Kept.{names_of}
use Rattle.await_tree.specs.WaitList.Parts.{Joins}
use Rattle.await_tree.proofs.WaitListLemmas.Awaited.{joined_at, key_one, key_there, other_at}
use Rattle.plain_waits.proofs.keeper.WaitList.register_at.Goals as goal

pub register_unless-requires-clause-there : goal.register_unless-requires-clause-there
register_unless-requires-clause-there g c = c.requires.keys c.in-Key.key ∙ sym c.is_taken-there.ensures

pub register_unless-requires-clause-asked : goal.register_unless-requires-clause-asked
register_unless-requires-clause-asked g c = λ e. c.requires.asked c.in-Key.key (key_there c.args.awaited.now c.args.at (awaited.Key (At 0)) c.in-Key.key c.requires.at c.in-Key.is) (c.requires.keys c.in-Key.key ∙ sym c.is_taken-there.ensures ∙ e)

pub returns-in-Key-clause-ok : goal.returns-in-Key-clause-ok
returns-in-Key-clause-ok g c = on_ok_weaker c.register_unless.result
    (λ (j : Joins (g.K.Gpi.content c.args.kernel.now) c.in-Key.key (g.K.Gpi.content c.register_unless.new.kernel)). joined_at (g.K.Gpi.content c.args.kernel.now) (g.K.Gpi.content c.register_unless.new.kernel) c.args.awaited.now c.args.at c.in-Key.key (names_of c.args.self.now) (key_one c.args.awaited.now c.args.at (awaited.Key (At 0)) c.in-Key.key c.requires.at c.in-Key.is) c.requires.keys j)
    c.register_unless.ensures.ok

pub returns-in_default : goal.returns-in_default
returns-in_default g c = record { loaded = c.requires.loaded; ok = other_at (g.K.Gpi.content c.args.kernel.now) c.args.awaited.now c.args.at (awaited.Key (At 0)) (names_of c.args.self.now) c.requires.at c.in_default.not-Key c.requires.keys; err = tt }

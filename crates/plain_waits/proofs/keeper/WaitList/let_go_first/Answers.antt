use Rattle.std.proofs.Common.{true, false}
use Rattle.gpi.specs.declared.types.Key.TheVariants.{At}
use Rattle.await_tree.specs.declared.cause.Awaited.TheVariants as awaited
use Rattle.await_tree.specs.WaitList.Waiting.{fired_keys}
use Rattle.plain_waits.specs.Kept.{names_of, waiting_in}
use Rattle.await_tree.proofs.WaitListLemmas.Awaited.{key_front, left_known, list_goes, list_other, list_stays, list_there}
use Rattle.await_tree.proofs.WaitListLemmas.Members.{named_held}
use Rattle.plain_waits.proofs.keeper.WaitList.let_go_first.Goals as goal

pub remove-requires-clause-there : goal.remove-requires-clause-there
remove-requires-clause-there g c = list_there (g.K.Gpi.content c.args.kernel.now) (g.K.Gpi.content c.args.kernel.now) (fired_keys c.args.fired) c.args.self.now.held.items (names_of c.args.self.now) c.in-Key.key c.args.left.now (key_front c.args.left.now (awaited.Key (At 0)) c.in-Key.key (names_of c.args.self.now) c.requires.some c.in-Key.is) c.requires.fits (λ k m. named_held k (waiting_in c.args.self.now) c.args.self.now.held.items m)
    (left_known c.args.left.now (names_of c.args.self.now) (fired_keys c.args.fired) c.in-Key.key c.is_left.result false c.is_left.ensures c.if-not-is_left.true)

pub returns-then-not-is_left-clause-keys : goal.returns-then-not-is_left-clause-keys
returns-then-not-is_left-clause-keys g c = list_goes (g.K.Gpi.content c.args.kernel.now) (g.K.Gpi.content c.remove.new.self) (fired_keys c.args.fired) c.args.self.now.held.items (names_of c.args.self.now) c.in-Key.key c.args.left.now (key_front c.args.left.now (awaited.Key (At 0)) c.in-Key.key (names_of c.args.self.now) c.requires.some c.in-Key.is) c.requires.fits (λ k m. named_held k (waiting_in c.args.self.now) c.args.self.now.held.items m)
    (left_known c.args.left.now (names_of c.args.self.now) (fired_keys c.args.fired) c.in-Key.key c.is_left.result false c.is_left.ensures c.if-not-is_left.true) c.remove.ensures.is

pub returns-else-not-is_left-clause-keys : goal.returns-else-not-is_left-clause-keys
returns-else-not-is_left-clause-keys g c = list_stays (g.K.Gpi.content c.args.kernel.now) (g.K.Gpi.content c.args.kernel.now) (fired_keys c.args.fired) c.args.self.now.held.items (names_of c.args.self.now) c.in-Key.key c.args.left.now (key_front c.args.left.now (awaited.Key (At 0)) c.in-Key.key (names_of c.args.self.now) c.requires.some c.in-Key.is) c.requires.fits (λ k m. named_held k (waiting_in c.args.self.now) c.args.self.now.held.items m)
    (left_known c.args.left.now (names_of c.args.self.now) (fired_keys c.args.fired) c.in-Key.key c.is_left.result true c.is_left.ensures c.if-not-is_left.false)

pub returns-in_default : goal.returns-in_default
returns-in_default g c = record { loaded = c.requires.loaded; keys = list_other (g.K.Gpi.content c.args.kernel.now) (fired_keys c.args.fired) c.args.self.now.held.items (names_of c.args.self.now) c.args.left.now (awaited.Key (At 0)) c.requires.some c.in_default.not-Key c.requires.fits }

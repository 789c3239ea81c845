use Rattle.std.proofs.Common.{refl}
use Rattle.plain_waits.specs.Kept.{names_of}
use Rattle.await_tree.proofs.WaitListLemmas.Rekeys.{fits_unfired}
use Rattle.plain_waits.proofs.awaits.WaitListAwaits.wake.Goals as goal

pub serve-requires-clause-fits : goal.serve-requires-clause-fits
serve-requires-clause-fits g c = fits_unfired (g.K.Gpi.content c.args.kernel.now) c.args.self.now.held.items (names_of c.args.self.now) c.requires.keys

pub returns-clause-held : goal.returns-clause-held
returns-clause-held g c = rw c.serve.ensures.held (λ k. refl)

pub returns-clause-keys : goal.returns-clause-keys
returns-clause-keys g c = c.serve.ensures.keys.keys

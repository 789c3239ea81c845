-- The item and those behind it.
use Rattle.test_refusal.proofs.Scopes.{of_stands}
use Rattle.test_refusal.proofs.place.Place.of.Goals as goal

pub returns-clause-stands : goal.returns-clause-stands
returns-clause-stands c =
    of_stands c.args.whole.now.file.now.items.items c.deref.result.now c.behind.result.now c.args.above c.index.result.now c.requires c.deref.ensures.value c.index.ensures c.behind.ensures

-- What the map of names holds is what a name means.
use Rattle.v_flat.proofs.ScopeLemmas.Stored.{found}
use Rattle.v_flat.proofs.scope.scope.Scope.find.Goals as goal

pub returns : goal.returns
returns c = found _ c.self.inside.names.entries c.args.self.now c.args.name.now c.get.result c.get.ensures.value c.self.view_is

-- What the map of names holds is a name's place.
use Rattle.std.proofs.Common.{◌∙◌}
use Rattle.name_table.proofs.Stored.{found}
use Rattle.name_table.proofs.names.Names.find.Goals as goal

pub returns : goal.returns
returns c = found (λ k. k.items) c.self.inside.places.entries c.args.self.now c.args.name.now c.copied.result (c.copied.ensures ∙ c.get.ensures.value) c.self.view_is

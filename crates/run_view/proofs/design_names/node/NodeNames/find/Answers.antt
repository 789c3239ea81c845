-- What the map of names holds is what a name means.
use Rattle.std.proofs.Common.{◌∙◌}
use Rattle.run_view.proofs.DesignNamesLemmas.Stored.{found}
use Rattle.run_view.proofs.design_names.node.NodeNames.find.Goals as goal

pub returns : goal.returns
returns c = found (λ k. k.now) c.self.inside.spots.entries c.args.self.now c.args.name.now c.copied.result (c.copied.ensures ∙ c.get.ensures.value) c.self.view_is

-- The map of names has the new entry.
use Rattle.run_view.proofs.DesignNamesLemmas.Stored.{added}
use Rattle.run_view.proofs.design_names.node.NodeNames.add.Goals as goal

pub returns-clause-ok : goal.returns-clause-ok
returns-clause-ok c =
    added (λ k. k.now) c.args.name c.args.spot c.self.inside.spots.entries c.insert.new.self.entries c.args.self.now c.in_ok-insert.ensures.entries c.self.view_is c.requires

-- One table more.
use Rattle.run_view.proofs.DesignNamesLemmas.Nodes.{one_more}
use Rattle.run_view.proofs.design_names.design.tables_of.Goals as goal

pub loop-at-preserved : goal.loop-at-preserved
loop-at-preserved c =
    one_more c.loop-at.tables.items c.push.new.self.items c.args.nodes.now c.loop-at.at c.in_ok-table.table c.get.result.now c.get.ensures
    c.in_ok-push.ensures.items c.in_ok-table.ensures c.loop-at.invariant

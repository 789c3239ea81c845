-- The next name is noted.
use Rattle.std.proofs.Common.{rules}
use Rattle.run_view.proofs.DesignNamesLemmas.First.{one_more}
use Rattle.run_view.proofs.design_names.node.NodeNames.of.Goals as goal

pub loop-at-preserved : goal.loop-at-preserved
loop-at-preserved c =
    one_more c.loop-at.names c.note.new.self c.args.children.now c.loop-at.at c.get-child.result.now c.get-child.ensures
    (search rules) c.loop-at.invariant

-- The names so far, and those that are left.
use Rattle.run_view.proofs.DesignNamesLemmas.First.{SoFar}
use Rattle.run_view.proofs.design_names.node.NodeNames.of.Given as goal

abbrev pub invariant-loop-at : goal.invariant-loop-at
invariant-loop-at l = SoFar l.names l.children l.at

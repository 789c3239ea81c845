use Rattle.gpi.specs.Limits.{most_elements}
use Rattle.gpi.proofs.Trees.{empty_new}
use Rattle.gpi.proofs.parents.is_tree.Goals as goal

pub is_tree_in-requires-clause-parents : goal.is_tree_in-requires-clause-parents
is_tree_in-requires-clause-parents c = empty_new most_elements

pub is_tree_in-requires-clause-depths : goal.is_tree_in-requires-clause-depths
is_tree_in-requires-clause-depths c = empty_new most_elements

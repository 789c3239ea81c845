-- A means of proof: the tree that a value of the code is, for the proofs of trees of triggers.
use Rattle.await_tree.specs.declared.tree.Tree.{Tree}
use Rattle.await_tree.specs.Tree as tree
use Rattle.await_tree.specs.Shape.{shape}

abbrev pub tree_in : Tree → tree.Tree
tree_in t = shape t.node

-- A means of proof: the code's trees, without where their parts lie in memory. It says nothing that a reader must trust.
use Rattle.await_tree.specs.declared.node.Node.{Node}
use Rattle.await_tree.specs.declared.node.Node.TheVariants as node
use Rattle.await_tree.specs.declared.node.Parts.{Parts}
use Rattle.await_tree.specs.declared.node.Parts.TheVariants as parts
use Rattle.await_tree.specs.Tree.{Tree, Trees, Over, Leaf, Cycles, First, Combine, Limit, NoTree, Then}

abbrev mutual
  pub shape : Node → Tree
  shape (node.Over f) = Over f
  shape (node.Leaf on trig) = Leaf on trig
  shape (node.Cycles key left trig) = Cycles key left trig
  shape (node.First ps) = First (shapes ps)
  shape (node.Combine trig ps) = Combine trig (shapes ps)
  shape (node.Limit' due p inner) = Limit due (shape inner)

  pub shapes : Parts → Trees
  shapes parts.End = NoTree
  shapes (parts.Then' p n q ps) = Then (shape n) (shapes ps)

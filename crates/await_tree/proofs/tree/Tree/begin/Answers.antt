use Rattle.await_tree.specs.Shape.{shape}
use Rattle.await_tree.proofs.Few.{few_begun}
use Rattle.await_tree.proofs.tree.Tree.begin.Goals as goal

pub invariant_of-self : goal.invariant_of-self
invariant_of-self g c = record {
  few =
      few_begun (shape c.args.self.now.node) (shape c.begin_node.new.node) (shape c.answered.new.node) (g.Q.Facts.facts c.args.facts.now)
      (g.Q.Facts.facts c.begin_node.new.facts) c.begin_node.ensures.begun c.answered.ensures.rest c.args.self.now.few;
}

-- The values of one argument more.
use Rattle.std.proofs.Common.{sym}
use Rattle.py_syntax.specs.ExpressionTrees.{view}
use Rattle.test_meaning.specs.Rules.Uses.{tree_uses}
use Rattle.test_names.proofs.UsesLemmas.Answers.{nothing, more}
use Rattle.test_names.proofs.uses.call.of_arguments.Goals as goal

pub loop-argument-init : goal.loop-argument-init
loop-argument-init g c = sym (nothing _ _)

pub loop-argument-preserved : goal.loop-argument-preserved
loop-argument-preserved g c =
    more (λ a. tree_uses (view a.value)) _ _ _ _ _ _ _ _ c.loop-argument-test.true c.argument-item.is c.first_of-found.ensures c.loop-argument.invariant c.of_tree.ensures

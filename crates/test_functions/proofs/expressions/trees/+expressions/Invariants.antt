-- What was made is that of the expressions and parts so far.
use Rattle.std.proofs.Common.{◌≡◌, map, take}
use Rattle.py_syntax.specs.ExpressionTrees.{view}
use Rattle.test_functions.specs.Expressions.Rows.{parts_of}
use Rattle.test_meaning.specs.Bodies.{parts_in, tree_in}
use Rattle.test_functions.proofs.expressions.trees.+expressions.Given as goal

abbrev pub invariant-expressions-loop-tree : goal.invariant-expressions-loop-tree
invariant-expressions-loop-tree g l = map view l.made.items ≡ map (λ e. tree_in (g.M.Meanings.inside l.meanings) (view e)) (take l.tree-index l.trees)

abbrev pub invariant-format_parts-loop-part : goal.invariant-format_parts-loop-part
invariant-format_parts-loop-part g l = parts_of l.made.items ≡ parts_in (g.M.Meanings.inside l.meanings) (parts_of (take l.part-index l.parts))

use Rattle.std.proofs.Common.{◌≡◌, map, take}
use Rattle.std.specs.List.{flat_map}
use Rattle.py_syntax.specs.ExpressionTrees.{NoPart, view, view_part}
use Rattle.python_tests.specs.Trees.TreeText.{parts_text}
use Rattle.python_tests.specs.Trees.CallText.{spaced_text}
use Rattle.python_tests.proofs.trees.expression.+expressions.Given as goal

abbrev pub invariant-spaced_texts-loop-tree : goal.invariant-spaced_texts-loop-tree
invariant-spaced_texts-loop-tree l = l.text.items ≡ flat_map spaced_text (map view (take l.tree-index l.trees))

abbrev pub invariant-parts_text-loop-part : goal.invariant-parts_text-loop-part
invariant-parts_text-loop-part l = l.text.items ≡ flat_map (λ p. parts_text (view_part p NoPart)) (take l.part-index l.parts)

-- What was found is what the uses so far break.
use Rattle.std.proofs.Common.{◌≡◌, take}
use Rattle.std.specs.List.{flat_map}
use Rattle.py_syntax.specs.ExpressionTrees.{NoPart, view, view_part}
use Rattle.test_meaning.specs.Rules.Uses.{parts_uses, tree_uses}
use Rattle.test_names.specs.Uses.Answer.{answer}
use Rattle.test_names.proofs.uses.expression.+expressions.Given as goal

abbrev pub invariant-of_trees-loop-tree : goal.invariant-of_trees-loop-tree
invariant-of_trees-loop-tree g l =
    l.found ≡ answer (g.S.Scope.file l.scope) (g.S.Scope.around l.scope) (flat_map (λ e. tree_uses (view e)) (take l.tree-index l.trees))

abbrev pub invariant-of_parts-loop-part : goal.invariant-of_parts-loop-part
invariant-of_parts-loop-part g l =
    l.found ≡ answer (g.S.Scope.file l.scope) (g.S.Scope.around l.scope) (flat_map (λ p. parts_uses (view_part p NoPart)) (take l.part-index l.parts))

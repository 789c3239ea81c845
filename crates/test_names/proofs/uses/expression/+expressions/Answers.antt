-- The uses of a tree are those of its parts.
use Rattle.std.proofs.Common.{rules, ◌≡◌, [], ◌∷◌, ◌∙◌, sym, ap, subst}
use Rattle.py_syntax.specs.ExpressionTrees.{NoPart, view, view_part}
use Rattle.py_syntax.specs.declared.expression.Expression.{Expression}
use Rattle.py_syntax.specs.declared.expression.Expression.TheViews.{the_lemmas}
use Rattle.test_meaning.specs.Rules.Uses.{Needs, tree_uses, parts_uses}
use Rattle.test_names.specs.Uses.Answer.{answer}
use Rattle.test_names.proofs.UsesLemmas.Answers.{nothing, first_and, more, of_pair}
use Rattle.test_names.proofs.UsesLemmas.Rows.{row_of_uses, parts_of_uses}
use Rattle.test_names.proofs.uses.expression.+expressions.Goals as goal

pub of_tree-returns-in-Constant : goal.of_tree-returns-in-Constant
of_tree-returns-in-Constant g t c = rw c.in-Constant.is (sym (nothing _ _))

pub of_part-returns-in-Text : goal.of_part-returns-in-Text
of_part-returns-in-Text g t c = rw c.in-Text.is (sym (nothing _ _))

pub of_tree-returns-in-FormatString : goal.of_tree-returns-in-FormatString
of_tree-returns-in-FormatString g t c = rw c.in-FormatString.is (search (rules, the_lemmas, parts_of_uses))

pub of_tree-returns-in-Call : goal.of_tree-returns-in-Call
of_tree-returns-in-Call g t c =
    let f = g.S.Scope.file c.args.scope.now in
    let a = g.S.Scope.around c.args.scope.now in
    subst (λ (e : Expression). c.first_of.result ≡ answer f a (tree_uses (view e))) (sym c.in-Call.is)
    (first_and f a _ _ _ _ _ c.first_of.ensures (c.needs.ensures ∙ ap (λ n. answer f a (Needs n ∷ [])) c.name.ensures)
    (search (rules, the_lemmas, row_of_uses)))

pub of_tree-returns-in-Subscript : goal.of_tree-returns-in-Subscript
of_tree-returns-in-Subscript g t c =
    of_pair _ _ _ _ _ _ _ _ _ _ (ap (λ (e : Expression). tree_uses (view e)) c.in-Subscript.is) c.first_of-in-Subscript.ensures
    c.of_tree.ensures c.deref-in-Subscript.ensures c.of_tree-in-Subscript.ensures c.deref-in-Subscript-2.ensures

pub of_tree-returns-in-Binary : goal.of_tree-returns-in-Binary
of_tree-returns-in-Binary g t c =
    of_pair _ _ _ _ _ _ _ _ _ _ (ap (λ (e : Expression). tree_uses (view e)) c.in-Binary.is) c.first_of-in-Binary.ensures
    c.of_tree-in-Binary.ensures c.deref-in-Binary.ensures c.of_tree-in-Binary-2.ensures c.deref-in-Binary-2.ensures

pub of_tree-returns-in-Bool : goal.of_tree-returns-in-Bool
of_tree-returns-in-Bool g t c =
    of_pair _ _ _ _ _ _ _ _ _ _ (ap (λ (e : Expression). tree_uses (view e)) c.in-Bool.is) c.first_of-in-Bool.ensures
    c.of_tree-in-Bool.ensures c.deref-in-Bool.ensures c.of_tree-in-Bool-2.ensures c.deref-in-Bool-2.ensures

pub of_trees-loop-tree-init : goal.of_trees-loop-tree-init
of_trees-loop-tree-init g t c = sym (nothing _ _)

pub of_parts-loop-part-init : goal.of_parts-loop-part-init
of_parts-loop-part-init g t c = sym (nothing _ _)

pub of_trees-loop-tree-preserved : goal.of_trees-loop-tree-preserved
of_trees-loop-tree-preserved g t c =
    more (λ e. tree_uses (view e)) _ _ _ _ _ _ _ _ c.loop-tree-test.true c.tree-item.is c.first_of-found.ensures c.loop-tree.invariant c.of_tree.ensures

pub of_parts-loop-part-preserved : goal.of_parts-loop-part-preserved
of_parts-loop-part-preserved g t c =
    more (λ p. parts_uses (view_part p NoPart)) _ _ _ _ _ _ _ _ c.loop-part-test.true c.part-item.is c.first_of-found.ensures c.loop-part.invariant c.of_part.ensures

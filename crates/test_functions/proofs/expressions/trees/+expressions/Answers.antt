-- The forms that hold lists, and one part more.
use Rattle.std.proofs.Common.{rules, ◌≡◌, List, sym, ap, ◌∙◌}
use Rattle.py_syntax.specs.ExpressionTrees.{Tree, Trees, Parts, Call, FormatString, view}
use Rattle.py_syntax.specs.declared.expression.Expression.{Expression}
use Rattle.py_syntax.specs.declared.expression.Expression.TheViews.{the_lemmas}
use Rattle.py_syntax.specs.declared.expression.FormatPart.{FormatPart}
use Rattle.test_functions.specs.Expressions.Rows.{parts_of, trees_of}
use Rattle.test_meaning.specs.Bodies.{parts_in, row_in, tree_in}
use Rattle.test_functions.proofs.ExpressionsLemmas.MadeRows.{row_trees, row_parts, made_row, more_parts}
use Rattle.test_functions.proofs.expressions.trees.+expressions.Goals as goal

pub expression-returns-in_ok-format_parts-in-FormatString : goal.expression-returns-in_ok-format_parts-in-FormatString
expression-returns-in_ok-format_parts-in-FormatString g t c =
    let s = g.M.Meanings.inside c.args.meanings.now in
    let e : view c.args.tree.now ≡ FormatString (parts_of c.in-FormatString.parts.items) = search (rules, the_lemmas, row_parts) in
    c.format_string.ensures ∙ ap (λ (ps : Parts). FormatString ps) c.in_ok-format_parts-in-FormatString.ensures
    ∙ ap (λ (ps : List FormatPart). FormatString (parts_in s (parts_of ps))) c.deref.ensures.value ∙ sym (ap (λ (x : Tree). tree_in s x) e)

pub expression-returns-in_ok-expressions-in-Call : goal.expression-returns-in_ok-expressions-in-Call
expression-returns-in_ok-expressions-in-Call g t c =
    let s = g.M.Meanings.inside c.args.meanings.now in
    let f = c.in-Call.function in
    let e : view c.args.tree.now ≡ Call f (trees_of c.in-Call.arguments.items) = search (rules, the_lemmas, row_trees) in
    c.function_call.ensures
    ∙ ap (λ (es : Trees). Call f es) (made_row s c.deref-in-Call.result.now c.in_ok-expressions-in-Call.field-0.items c.in_ok-expressions-in-Call.ensures)
    ∙ ap (λ (es : List Expression). Call f (row_in s (trees_of es))) c.deref-in-Call.ensures.value ∙ sym (ap (λ (x : Tree). tree_in s x) e)

pub format_parts-loop-part-preserved : goal.format_parts-loop-part-preserved
format_parts-loop-part-preserved g t c =
    ap (λ (ms : List FormatPart). parts_of ms) c.in_ok-push.ensures.items
    ∙ more_parts (g.M.Meanings.inside c.args.meanings.now) _ _ _ _ _ c.loop-part-test.true c.part-item.is c.loop-part.invariant c.in_ok-one.ensures

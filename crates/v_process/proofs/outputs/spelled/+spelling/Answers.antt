-- One part more, and the parts of braces.
use Rattle.std.proofs.Common.{rules, ◌≡◌, ◌∙◌, is_some, sym, ap}
use Rattle.v_syntax.specs.declared.expression.Expression.TheViews.{the_lemmas}
use Rattle.v_syntax.specs.ExpressionTrees.{Tree, Concatenation, view, views}
use Rattle.v_flat.specs.Targets.{as_target, as_targets}
use Rattle.v_check.proofs.ConstantsLemmas.Rows.{row_views}
use Rattle.v_process.proofs.OutputsLemmas.Forms.{braces_spelled, spelled_here}
use Rattle.v_process.proofs.outputs.spelled.+spelling.Goals as goal

pub spell_targets-loop-expression-preserved : goal.spell_targets-loop-expression-preserved
spell_targets-loop-expression-preserved t c =
    c.loop-expression.invariant
    ∙ spelled_here c.args.expressions.now c.loop-expression.expression-index c.expression-item.result c.loop-expression-test.true c.expression-item.is
    (sym c.if-not-spells_target.ensures)

pub spells_target-returns-in-Concatenation : goal.spells_target-returns-in-Concatenation
spells_target-returns-in-Concatenation t c =
    let p = c.in-Concatenation.at in
    let es = views c.deref.result.now in
    let e : view c.args.expression.now ≡ Concatenation p es = search (rules, the_lemmas, row_views) in
    c.spell_targets.ensures ∙ braces_spelled p (as_targets es) ∙ ap (λ (x : Tree). is_some (as_target x)) (sym e)

-- The next part, and all of them together.
use Rattle.std.proofs.Common.{rules, ◌≡◌, List, Some, IfOk, sym, subst}
use Rattle.v_syntax.specs.declared.expression.Expression.TheViews.{the_lemmas}
use Rattle.v_syntax.specs.ExpressionTrees.{Tree, Concatenation, view, views}
use Rattle.v_flat.specs.declared.scope.found.Found.{Found}
use Rattle.v_flat.specs.Scope.Scope.{means}
use Rattle.v_flat.specs.Targets.{as_target, as_targets}
use Rattle.v_process.specs.declared.target.checked.CheckedTarget.{CheckedTarget}
use Rattle.v_process.proofs.AssignLemmas.Grown.{grown_on}
use Rattle.v_check.proofs.ConstantsLemmas.Rows.{row_views}
use Rattle.v_process.specs.Outputs.Spelled.{IsSpelled}
use Rattle.v_process.proofs.OutputsLemmas.Walked.{OnwardFrom, onward_start, onward_next, onward_end, braces_output, same_grown, name_grown}
use Rattle.v_process.proofs.outputs.walk.+driving.Goals as goal

pub each_part-loop-expression-init : goal.each_part-loop-expression-init
each_part-loop-expression-init t c =
    let q = c.args.place in
    let s = means c.args.scope.now in
    let ts = as_targets (views c.args.expressions.now) in
    let x = c.args.driven.now in (
      subst (λ (fs : List (Found CheckedTarget)). OnwardFrom q s ts x fs ts x) (sym c.new-found.ensures.items) (onward_start q s ts x),
      same_grown x x (λ ds k. k),
    )

pub each_part-loop-expression-preserved : goal.each_part-loop-expression-preserved
each_part-loop-expression-preserved t c =
    let es = c.args.expressions.now in
    let x = c.args.driven.now in
    let y = c.loop-expression.driven in
    let z = c.spelled_target.new.driven in (
      onward_next c.args.place (means c.args.scope.now) es c.loop-expression.expression-index c.expression-item.result (as_targets (views es)) x y z c.loop-expression.found.items
          c.push.new.self.items c.in_ok-spelled_target.field-0 c.loop-expression-test.true c.expression-item.is c.in_ok-push.ensures.items c.loop-expression.invariant.0 c.in_ok-spelled_target.ensures.ok,
      grown_on x y z c.loop-expression.invariant.1 c.in_ok-spelled_target.ensures.grows,
    )

pub each_part-returns-clause-ok : goal.each_part-returns-clause-ok
each_part-returns-clause-ok t c =
    onward_end c.args.place (means c.args.scope.now) c.args.expressions.now c.loop-expression.expression-index (as_targets (views c.args.expressions.now)) c.args.driven.now
    c.loop-expression.driven c.loop-expression.found.items c.loop-expression-test.false c.loop-expression.invariant.0

pub spelled_target-returns-in-Operand-clause-grows : goal.spelled_target-returns-in-Operand-clause-grows
spelled_target-returns-in-Operand-clause-grows t c =
    name_grown (Some c.args.place) (means c.args.scope.now) _ c.args.driven.now c.net_name.new.driven c.net_name.result c.net_name.ensures.ok c.net_name.ensures.err

pub spelled_target-returns-in_ok-together-in-Concatenation-clause-ok : goal.spelled_target-returns-in_ok-together-in-Concatenation-clause-ok
spelled_target-returns-in_ok-together-in-Concatenation-clause-ok t c =
    let q = c.args.place in
    let s = means c.args.scope.now in
    let p = c.in-Concatenation.at in
    let es = views c.deref.result.now in
    let x = c.args.driven.now in
    let y = c.each_part.new.driven in
    let e : view c.args.expression.now ≡ Concatenation p es = search (rules, the_lemmas, row_views) in
    subst (λ (d : Tree). IfOk c.braced.result (λ (g : Found CheckedTarget). IsSpelled q s (as_target d) x g y)) (sym e)
    (braces_output q s p (as_targets es) x y c.in_ok-found-in-Concatenation.found.items c.in_ok-together-in-Concatenation.field-0 c.braced.result
    c.in_ok-found-in-Concatenation.ensures.ok c.in_ok-together-in-Concatenation.ensures c.braced.ensures)

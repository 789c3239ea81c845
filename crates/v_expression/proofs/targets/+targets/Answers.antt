use Rattle.std.proofs.Common.{◌+◌, ◌-◌, length, arith, ◌∙◌, sym, ap, refl}
use Rattle.std.proofs.lemmas.Result.{err_from_is_err_and}
use Rattle.v_syntax.specs.ExpressionTrees.{view_target, view_targets}
use Rattle.v_expression.specs.Reading as reading
use Rattle.v_expression.specs.Reading.{layer}
use Rattle.v_expression.specs.Lists.{and_last_target}
use Rattle.v_expression.proofs.Rows.{targets_push}
use Rattle.v_expression.proofs.Loops.{fails_same, targets_start, targets_more, targets_done, targets_lack, targets_fail, targets_empty}
use Rattle.v_expression.proofs.targets.+targets.Goals as goal

pub target_parts_at-loop-init : goal.target_parts_at-loop-init
target_parts_at-loop-init t c =
    let sub = layer c.args.total c.args.below (reading.below c.args.total c.args.below) in
    targets_start sub (view_target c.args.first.value) (view_targets c.push.new.self.items) _ c.args.tokens.now (omega arith) (ap view_targets c.in_ok-push.ensures.items ∙ rw (c.new-all.ensures.items, c.into_inner.ensures) refl)

pub target_parts_at-returns-in-Some : goal.target_parts_at-returns-in-Some
target_parts_at-returns-in-Some t c =
    let sub = layer c.args.total c.args.below (reading.below c.args.total c.args.below) in
    sym c.loop.invariant ∙ targets_done sub (length c.args.tokens.now - c.loop.counter) (length c.args.tokens.now - (c.loop.counter + 1)) c.loop.rest.now (omega arith) (view_targets c.loop.all.items) _ c.in-Some.ensures

pub target_parts_at-returns-in_err-behind : goal.target_parts_at-returns-in_err-behind
target_parts_at-returns-in_err-behind t c =
    let sub = layer c.args.total c.args.below (reading.below c.args.total c.args.below) in
    let p = err_from_is_err_and c.from_residual-in_err-behind.result c.from_residual-in_err-behind.ensures.1 in
    rw (p.1, p.2) (fails_same _ _ _ c.loop.invariant
    (targets_lack sub (length c.args.tokens.now - c.loop.counter) (length c.args.tokens.now - (c.loop.counter + 1)) c.loop.rest.now (omega arith) (view_targets c.loop.all.items) _ c.in_default.ensures c.in_err-behind.ensures))

pub target_parts_at-returns-in_err-part : goal.target_parts_at-returns-in_err-part
target_parts_at-returns-in_err-part t c =
    let sub = layer c.args.total c.args.below (reading.below c.args.total c.args.below) in
    let p = err_from_is_err_and c.from_residual-in_err-part.result c.from_residual-in_err-part.ensures.1 in
    rw (p.1, p.2) (fails_same _ _ _ c.loop.invariant
    (targets_fail sub (length c.args.tokens.now - c.loop.counter) (length c.args.tokens.now - (c.loop.counter + 1)) c.loop.rest.now (omega arith) (view_targets c.loop.all.items) _ c.in_ok-behind.behind.now c.in_default.ensures c.in_ok-behind.ensures c.in_err-part.ensures))

pub target_parts_at-loop-preserved : goal.target_parts_at-loop-preserved
target_parts_at-loop-preserved t c =
    let sub = layer c.args.total c.args.below (reading.below c.args.total c.args.below) in
    targets_more sub (length c.args.tokens.now - c.loop.counter) (length c.args.tokens.now - (c.loop.counter + 1)) c.loop.rest.now (omega arith)
    (view_targets c.loop.all.items) _ (view_target c.in_ok-part.part.value) c.in_ok-behind.behind.now c.in_ok-part.others.now
    (ap view_targets c.in_ok-push-2.ensures.items ∙ (targets_push c.loop.all.items c.into_inner-in-loop.result ∙ ap (λ t. and_last_target (view_targets c.loop.all.items) (view_target t)) c.into_inner-in-loop.ensures)) c.in_default.ensures c.in_ok-behind.ensures c.in_ok-part.ensures ∙ c.loop.invariant

pub target_parts_at-returns : goal.target_parts_at-returns
target_parts_at-returns t c =
    let sub = layer c.args.total c.args.below (reading.below c.args.total c.args.below) in
    rw c.syntax_error.ensures (sym c.loop.invariant ∙ targets_empty sub (length c.args.tokens.now - c.loop.counter) c.loop.rest.now (view_targets c.loop.all.items) (omega arith))

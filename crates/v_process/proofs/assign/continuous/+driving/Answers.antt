-- The next part, and all of them together.
use Rattle.std.proofs.Common.{rules, ◌≡◌, IfOk, sym, subst}
use Rattle.v_syntax.specs.declared.expression.Target.TheViews.{the_lemmas}
use Rattle.v_syntax.specs.ExpressionTrees.{TargetTree, JoinedTarget, view_target, view_targets}
use Rattle.v_flat.specs.Scope.Scope.{means}
use Rattle.v_flat.specs.declared.scope.found.Found.{Found}
use Rattle.v_process.specs.declared.target.checked.CheckedTarget.{CheckedTarget}
use Rattle.v_process.specs.Assign.Continuous.{IsContinuous}
use Rattle.v_process.proofs.AssignLemmas.Grown.{all_grown, grown_on, on_err, target_grown}
use Rattle.v_process.proofs.AssignLemmas.Onward.{braces_drive, onward_end, onward_next}
use Rattle.v_process.proofs.AssignLemmas.Walked.{row_targets}
use Rattle.v_process.proofs.assign.continuous.+driving.Goals as goal

pub each_part-returns-in_err-push-clause-err : goal.each_part-returns-in_err-push-clause-err
each_part-returns-in_err-push-clause-err t c =
    on_err c.from_residual-in_err-push.result
    (grown_on c.args.driven.now c.loop-target.driven c.net_target.new.driven c.loop-target.invariant.1
    (target_grown c.args.place (means c.args.scope.now) (view_target c.target-item.result) c.loop-target.driven c.net_target.new.driven c.in_ok-net_target.field-0
    c.in_ok-net_target.ensures.ok))

pub each_part-loop-target-preserved : goal.each_part-loop-target-preserved
each_part-loop-target-preserved t c =
    let q = c.args.place in
    let s = means c.args.scope.now in
    let d = c.target-item.result in
    let x = c.args.driven.now in
    let y = c.loop-target.driven in
    let z = c.net_target.new.driven in
    let f = c.in_ok-net_target.field-0 in
    let h = c.in_ok-net_target.ensures.ok in (
      onward_next q s c.args.targets.now c.loop-target.target-index d x y z c.loop-target.found.items c.push.new.self.items f c.loop-target-test.true c.target-item.is
          c.in_ok-push.ensures.items c.loop-target.invariant.0 h,
      grown_on x y z c.loop-target.invariant.1 (target_grown q s (view_target d) y z f h),
    )

pub each_part-returns-clause-ok : goal.each_part-returns-clause-ok
each_part-returns-clause-ok t c =
    onward_end c.args.place (means c.args.scope.now) c.args.targets.now c.loop-target.target-index c.args.driven.now c.loop-target.driven c.loop-target.found.items
    c.loop-target-test.false c.loop-target.invariant.0

pub net_target-returns-in_err-together-in-Concatenation-clause-err : goal.net_target-returns-in_err-together-in-Concatenation-clause-err
net_target-returns-in_err-together-in-Concatenation-clause-err t c =
    on_err c.from_residual-in_err-together-in-Concatenation.result
    (all_grown c.args.place (means c.args.scope.now) (view_targets c.deref.result.now) c.args.driven.now c.each_part.new.driven c.in_ok-found-in-Concatenation.found.items
    c.in_ok-found-in-Concatenation.ensures.ok)

pub net_target-returns-in_ok-together-in-Concatenation-clause-ok : goal.net_target-returns-in_ok-together-in-Concatenation-clause-ok
net_target-returns-in_ok-together-in-Concatenation-clause-ok t c =
    let q = c.args.place in
    let s = means c.args.scope.now in
    let p = c.in-Concatenation.at in
    let ts = view_targets c.deref.result.now in
    let e : view_target c.args.target.now ≡ JoinedTarget p ts = search (rules, the_lemmas, row_targets) in
    subst (λ (x : TargetTree). IfOk c.braced.result (λ (g : Found CheckedTarget). IsContinuous q s x c.args.driven.now g c.each_part.new.driven)) (sym e)
    (braces_drive q s p ts c.args.driven.now c.each_part.new.driven c.in_ok-found-in-Concatenation.found.items c.in_ok-together-in-Concatenation.field-0 c.braced.result
    c.in_ok-found-in-Concatenation.ensures.ok c.in_ok-together-in-Concatenation.ensures c.braced.ensures)

pub net_target-returns-in_ok-together-in-Concatenation-clause-err : goal.net_target-returns-in_ok-together-in-Concatenation-clause-err
net_target-returns-in_ok-together-in-Concatenation-clause-err t c =
    on_err c.braced.result
    (all_grown c.args.place (means c.args.scope.now) (view_targets c.deref.result.now) c.args.driven.now c.each_part.new.driven c.in_ok-found-in-Concatenation.found.items
    c.in_ok-found-in-Concatenation.ensures.ok)

-- The parts of braces, and the whole.
use Rattle.std.proofs.Common.{rules, ◌≡◌, ℕ, ◌+◌, ◌-◌, ◌≤◌, List, length, drop, IfOk, sym, subst, arith}
use Rattle.std.proofs.lemmas.List.{drop_all}
use Rattle.v_syntax.specs.declared.expression.Target as code_target
use Rattle.v_syntax.specs.declared.expression.Target.TheViews.{the_lemmas}
use Rattle.v_syntax.specs.ExpressionTrees.{TargetTree, JoinedTarget, more_targets, view_target, view_targets}
use Rattle.v_flat.specs.Scope.Scope.{means}
use Rattle.v_flat.specs.Targets.{target_checked, targets_checked}
use Rattle.v_process.specs.Assign.Targets.{AreProcedural, IsProcedural}
use Rattle.v_process.proofs.AssignLemmas.Walked.{braces_result, one_more, row_targets}
use Rattle.v_process.proofs.assign.walk.+walking.Goals as goal

pub all-loop-at-init : goal.all-loop-at-init
all-loop-at-init t c =
    let s = means c.args.scope.now in
    let xs = c.args.targets.now in
    subst (λ (ys : List code_target.Target). AreProcedural s (view_targets ys) c.none-found.result) (sym (drop_all (length xs) xs (omega arith))) (c.none-found.ensures s)

pub all-loop-at-preserved : goal.all-loop-at-preserved
all-loop-at-preserved t c =
    let s = means c.args.scope.now in
    let xs = c.args.targets.now in
    let i = c.loop-at.at in
    let d = c.index-targets-at.result in
    let f = c.in_ok-found.found in
    let some : 1 ≤ i = search rules in
    let inside : i ≤ length xs = search rules in
    let next : i ≡ i - 1 + 1 = omega (arith, some) in
    let rest = view_targets (drop (i - 1 + 1) xs) in
    one_more s xs (i - 1) d f (omega (arith, some, inside))
    (subst (λ (x : code_target.Target). AreProcedural s (more_targets (view_target x) rest) f) c.index-targets-at.is
    (c.in_ok-found.ensures s (view_target d) rest (target_checked s (view_target d)) (targets_checked s rest) c.in_ok-part.ensures
    (subst (λ (n : ℕ). AreProcedural s (view_targets (drop n xs)) c.loop-at.found) next c.loop-at.invariant)))

pub target-returns-in_ok-all-in-Concatenation : goal.target-returns-in_ok-all-in-Concatenation
target-returns-in_ok-all-in-Concatenation t c =
    let s = means c.args.scope.now in
    let p = c.in-Concatenation.at in
    let xs = c.in-Concatenation.parts.items in
    let f = c.in_ok-all-in-Concatenation.field-0 in
    let e : view_target c.args.target.now ≡ JoinedTarget p (view_targets xs) = search (rules, the_lemmas, row_targets) in
    subst (λ (x : TargetTree). IfOk c.braced.result (IsProcedural s x)) (sym e)
    (braces_result s p (view_targets xs) f c.braced.result
    (subst (λ (ys : List code_target.Target). AreProcedural s (view_targets ys) f) c.deref.ensures.value c.in_ok-all-in-Concatenation.ensures)
    c.braced.ensures)

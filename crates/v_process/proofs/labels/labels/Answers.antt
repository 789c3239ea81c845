-- The next label.
use Rattle.std.proofs.Common.{rules, ◌≡◌, ℕ, ◌+◌, ◌-◌, ◌≤◌, List, length, drop, map, sym, subst, arith}
use Rattle.std.proofs.lemmas.List.{drop_all}
use Rattle.v_syntax.specs.declared.expression.Expression as code
use Rattle.v_syntax.specs.ExpressionTrees.{view}
use Rattle.v_flat.specs.Scope.Scope.{means}
use Rattle.v_process.specs.Act.Cases.{AreLabels}
use Rattle.v_process.proofs.Behind.{more_labels}
use Rattle.v_process.proofs.labels.labels.Goals as goal

pub loop-at-init : goal.loop-at-init
loop-at-init c =
    let s = means c.args.scope.now in
    let xs = c.args.expressions.now in
    subst (λ (ys : List code.Expression). AreLabels s (map view ys) c.none-found.result) (sym (drop_all (length xs) xs (omega arith))) (c.none-found.ensures s)

pub loop-at-preserved : goal.loop-at-preserved
loop-at-preserved c =
    let s = means c.args.scope.now in
    let xs = c.args.expressions.now in
    let i = c.loop-at.at in
    let some : 1 ≤ i = search rules in
    let inside : i ≤ length xs = search rules in
    let next : i ≡ i - 1 + 1 = omega (arith, some) in
    more_labels s xs (i - 1) c.index-expressions-at.result c.in_ok-label.label c.loop-at.found c.in_ok-found.found (omega (arith, some, inside)) c.index-expressions-at.is
    c.in_ok-label.ensures (subst (λ (n : ℕ). AreLabels s (map view (drop n xs)) c.loop-at.found) next c.loop-at.invariant) c.in_ok-found.ensures

-- Each form of expressions, and the parts of braces.
use Rattle.std.proofs.Common.{rules, ◌≡◌, ℕ, ◌+◌, ◌-◌, ◌≤◌, List, length, drop, sym, ap, ◌∙◌, subst, arith}
use Rattle.std.proofs.lemmas.List.{drop_all}
use Rattle.v_syntax.specs.declared.expression.Expression as code
use Rattle.v_syntax.specs.declared.expression.Expression.TheViews.{the_lemmas}
use Rattle.v_syntax.specs.ExpressionTrees.{Tree, Concatenation, Replication, more, view, views, first_at}
use Rattle.v_flat.specs.Scope.Scope.{means}
use Rattle.v_check.specs.Constants.Checked.{IsChecked, IsCount}
use Rattle.v_check.specs.Parts.Parts.{AreChecked}
use Rattle.v_check.proofs.ConstantsLemmas.Rows.{row_views}
use Rattle.v_check.proofs.Behind.{one_more}
use Rattle.v_check.proofs.walk.+checking.Goals as goal

pub all-loop-at-init : goal.all-loop-at-init
all-loop-at-init t c =
    let s = means c.args.scope.now in
    let xs = c.args.expressions.now in
    subst (λ (ys : List code.Expression). AreChecked s (views ys) c.none-found.result) (sym (drop_all (length xs) xs (omega arith))) (c.none-found.ensures s)

pub all-loop-at-preserved : goal.all-loop-at-preserved
all-loop-at-preserved t c =
    let s = means c.args.scope.now in
    let xs = c.args.expressions.now in
    let i = c.loop-at.at in
    let d = c.index-expressions-at.result in
    let f = c.in_ok-found.found in
    let some : 1 ≤ i = search rules in
    let inside : i ≤ length xs = search rules in
    let next : i ≡ i - 1 + 1 = omega (arith, some) in
    one_more s xs (i - 1) d f (omega (arith, some, inside))
    (subst (λ (x : code.Expression). AreChecked s (more (view x) (views (drop (i - 1 + 1) xs))) f) c.index-expressions-at.is
    (c.in_ok-found.ensures s (view d) (views (drop (i - 1 + 1) xs)) c.in_ok-part.ensures
    (subst (λ (n : ℕ). AreChecked s (views (drop n xs)) c.loop-at.found) next c.loop-at.invariant)))

pub check-returns-in-Number : goal.check-returns-in-Number
check-returns-in-Number t c =
    let s = means c.args.scope.now in
    subst (λ (x : code.Expression). IsChecked s (view x) c.number.result) (sym c.in-Number.is) (c.number.ensures s c.in-Number.at)

pub check-returns-in_ok-binary-in-Binary : goal.check-returns-in_ok-binary-in-Binary
check-returns-in_ok-binary-in-Binary t c =
    let s = means c.args.scope.now in
    let f = c.in_ok-binary-in-Binary.field-0 in
    subst (λ (x : code.Expression). IsChecked s (view x) f) (sym c.in-Binary.is)
    (c.in_ok-binary-in-Binary.ensures s (view c.in-Binary.left.value) (view c.in-Binary.right.value)
    (sym (c.first.ensures ∙ ap (λ (x : code.Expression). first_at (view x)) c.deref-in-Binary-3.ensures))
    (subst (λ (x : code.Expression). IsChecked s (view x) c.in_ok-a-in-Binary.a) c.deref-in-Binary.ensures c.in_ok-a-in-Binary.ensures)
    (subst (λ (x : code.Expression). IsChecked s (view x) c.in_ok-b-in-Binary.b) c.deref-in-Binary-2.ensures c.in_ok-b-in-Binary.ensures))

pub check-returns-in_ok-conditional-in-Conditional : goal.check-returns-in_ok-conditional-in-Conditional
check-returns-in_ok-conditional-in-Conditional t c =
    let s = means c.args.scope.now in
    let f = c.in_ok-conditional-in-Conditional.field-0 in
    subst (λ (x : code.Expression). IsChecked s (view x) f) (sym c.in-Conditional.is)
    (c.in_ok-conditional-in-Conditional.ensures s (view c.in-Conditional.condition.value) (view c.in-Conditional.yes.value) (view c.in-Conditional.no.value)
    (sym (c.first-in-Conditional.ensures ∙ ap (λ (x : code.Expression). first_at (view x)) c.deref-in-Conditional-4.ensures))
    (subst (λ (x : code.Expression). IsChecked s (view x) c.in_ok-test-in-Conditional.test) c.deref-in-Conditional.ensures c.in_ok-test-in-Conditional.ensures)
    (subst (λ (x : code.Expression). IsChecked s (view x) c.in_ok-a-in-Conditional.a) c.deref-in-Conditional-2.ensures c.in_ok-a-in-Conditional.ensures)
    (subst (λ (x : code.Expression). IsChecked s (view x) c.in_ok-b-in-Conditional.b) c.deref-in-Conditional-3.ensures c.in_ok-b-in-Conditional.ensures))

pub check-returns-in_ok-concatenation-in-Concatenation : goal.check-returns-in_ok-concatenation-in-Concatenation
check-returns-in_ok-concatenation-in-Concatenation t c =
    let s = means c.args.scope.now in
    let f = c.in_ok-concatenation-in-Concatenation.field-0 in
    let xs = c.in-Concatenation.parts.items in
    let e : view c.args.expression.now ≡ Concatenation c.in-Concatenation.at (views xs) = search (rules, the_lemmas, row_views) in
    subst (λ (x : Tree). IsChecked s x f) (sym e)
    (c.in_ok-concatenation-in-Concatenation.ensures s (views xs)
    (subst (λ (ys : List code.Expression). AreChecked s (views ys) c.in_ok-all-in-Concatenation.field-0) c.deref-in-Concatenation.ensures.value c.in_ok-all-in-Concatenation.ensures))

pub check-returns-in_ok-replication-in-Replication : goal.check-returns-in_ok-replication-in-Replication
check-returns-in_ok-replication-in-Replication t c =
    let s = means c.args.scope.now in
    let f = c.in_ok-replication-in-Replication.field-0 in
    let n = c.in-Replication.count.value in
    let xs = c.in-Replication.parts.items in
    let e : view c.args.expression.now ≡ Replication c.in-Replication.at (view n) (views xs) = search (rules, the_lemmas, row_views) in
    subst (λ (x : Tree). IsChecked s x f) (sym e)
    (c.in_ok-replication-in-Replication.ensures s (view n) (views xs)
    (subst (λ (x : code.Expression). IsCount s (view x) c.in_ok-times-in-Replication-2.times) c.deref-in-Replication-2.ensures c.in_ok-times-in-Replication-2.ensures)
    (subst (λ (ys : List code.Expression). AreChecked s (views ys) c.in_ok-parts-in-Replication.parts) c.deref-in-Replication-3.ensures.value c.in_ok-parts-in-Replication.ensures))

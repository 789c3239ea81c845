-- The forms of statements, and what stands before others.
use Rattle.std.proofs.Common.{rules, ◌≡◌, ℕ, ◌+◌, ◌-◌, ◌≤◌, List, [], length, map, drop, Some, Result, IfOk, refl, sym, ap, ◌∙◌, subst, arith}
use Rattle.std.proofs.lemmas.List.{drop_all}
use Rattle.four_value.specs.declared.Digit.{Digit}
use Rattle.v_syntax.specs.declared.expression.Expression as code_expression
use Rattle.v_syntax.specs.declared.statement.Statement as code
use Rattle.v_syntax.specs.declared.statement.CaseItem as code_item
use Rattle.v_syntax.specs.declared.statement.CaseItem.TheViews.{the_lemmas}
use Rattle.v_syntax.specs.ExpressionTrees as expression
use Rattle.v_syntax.specs.StatementTrees.{StatementTree, Block, Case, CaseTree, view, view_case, view_header}
use Rattle.v_flat.specs.declared.scope.rule.Broken.{Broken}
use Rattle.v_flat.specs.declared.scope.meaning.DataObject.{DataObject}
use Rattle.v_flat.specs.declared.scope.meaning.Meaning.TheVariants.{Object}
use Rattle.v_flat.specs.Scope.Scope.{Scope, find, means}
use Rattle.v_process.specs.Act.Statements.{IsFoundStatement}
use Rattle.v_process.specs.Act.Cases.{AreLabels}
use Rattle.v_process.specs.Lists.{AreFoundStatements, AreFoundCases, IsFoundCase, statement_list, case_list}
use Rattle.v_process.specs.Turns.{AreTurns}
use Rattle.v_process.proofs.Rows.{row_statements, row_cases}
use Rattle.v_process.proofs.Forms.{block_found, case_found, item_found, default_found}
use Rattle.v_process.proofs.Behind.{more_found}
use Rattle.v_process.proofs.Looping.{turn_before, turns_lost, loop_result}
use Rattle.v_process.proofs.walk.+statements.Goals as goal

pub all-loop-at-init : goal.all-loop-at-init
all-loop-at-init t c =
    let s = means c.args.scope.now in
    let xs = c.args.statements.now in (
      subst (λ (ys : List code.Statement). AreFoundStatements c.args.timing s (statement_list ys) c.none-found.result) (sym (drop_all (length xs) xs (omega arith))) (c.none-found.ensures c.args.timing s),
      refl,
    )

pub all-loop-at-preserved : goal.all-loop-at-preserved
all-loop-at-preserved t c =
    let s = means c.args.scope.now in
    let xs = c.args.statements.now in
    let i = c.loop-at.at in
    let d = c.index-statements-at.result in
    let same = c.loop-at.invariant.1 in
    let some : 1 ≤ i = search rules in
    let inside : i ≤ length xs = search rules in
    let next : i ≡ i - 1 + 1 = omega (arith, some) in (
      more_found c.args.timing s xs (i - 1) d c.in_ok-first.first c.loop-at.found c.in_ok-found.found (omega (arith, some, inside)) c.index-statements-at.is
          (subst (λ (q : Scope). IsFoundStatement c.args.timing q (view d) c.in_ok-first.first) same c.in_ok-first.ensures.found)
          (subst (λ (n : ℕ). AreFoundStatements c.args.timing s (statement_list (drop n xs)) c.loop-at.found) next c.loop-at.invariant.0) c.in_ok-found.ensures.checks,
      c.in_ok-first.ensures.scope ∙ same,
    )

pub case_items-loop-at-init : goal.case_items-loop-at-init
case_items-loop-at-init t c =
    let s = means c.args.scope.now in
    let xs = c.args.items.now in (
      subst (λ (ys : List code_item.CaseItem). AreFoundCases c.args.timing s (case_list ys) c.none-found.result) (sym (drop_all (length xs) xs (omega arith))) (c.none-found.ensures c.args.timing s),
      refl,
    )

pub all_turns-loop-at-init : goal.all_turns-loop-at-init
all_turns-loop-at-init t c =
    let s = means c.args.scope.now in
    let n = c.args.name.now in
    let o = c.args.object in
    let b = view c.args.body.now in
    let f = c.in_ok-found.found in
    let xs = c.values-values.result.now in
    let w = c.args.turns.now.1 in (
      subst (λ (vs : List (List Digit)). AreTurns c.args.timing s n o b (vs, w) f) (sym (drop_all (length xs) xs (omega arith)))
          (subst (λ (v : List Digit). AreTurns c.args.timing s n o b ([], v) f) c.last.ensures (c.in_ok-found.ensures c.args.timing s n b)),
      refl,
    )

pub all_turns-loop-at-preserved : goal.all_turns-loop-at-preserved
all_turns-loop-at-preserved t c =
    let s = means c.args.scope.now in
    let xs = c.values-values.result.now in
    let w = c.args.turns.now.1 in
    let i = c.loop-at.at in
    let same = c.loop-at.invariant.1 in
    let some : 1 ≤ i = search rules in
    let inside : i ≤ length xs = search rules in
    let next : i ≡ i - 1 + 1 = omega (arith, some) in (
      turn_before c.args.timing s c.args.name.now c.args.object (view c.args.body.now) xs (i - 1) c.index-values-at.result w (means c.loop-at.scope) c.in_ok-first.first c.loop-at.found
          c.in_ok-found-2.found (omega (arith, some, inside)) c.index-values-at.is same c.in_ok-first.ensures.found
          (subst (λ (k : ℕ). AreTurns c.args.timing s c.args.name.now c.args.object (view c.args.body.now) (drop k xs, w) c.loop-at.found) next c.loop-at.invariant.0)
          c.in_ok-found-2.ensures.made,
      c.in_ok-first.ensures.scope ∙ same,
    )

pub case_item-returns-in_ok-act-in-Match-clause-found : goal.case_item-returns-in_ok-act-in-Match-clause-found
case_item-returns-in_ok-act-in-Match-clause-found t c =
    let s = means c.args.scope.now in
    let labels = c.in_ok-labels-in-Match.labels in
    subst (λ (x : CaseTree). IfOk c.item.result (IsFoundCase c.args.timing s x c.args.rest)) (sym (ap (λ (i : code_item.CaseItem). view_case i) c.in-Match.is))
    (item_found c.args.timing s (map expression.view c.in-Match.expressions.items) (view c.in-Match.tree) labels c.in_ok-act-in-Match.act c.args.rest c.item.result
    (subst (λ (es : List code_expression.Expression). AreLabels s (map expression.view es) labels) c.deref.ensures.value c.in_ok-labels-in-Match.ensures)
    c.in_ok-act-in-Match.ensures.found c.item.ensures)

pub case_item-returns-in_ok-act-in-Default-clause-found : goal.case_item-returns-in_ok-act-in-Default-clause-found
case_item-returns-in_ok-act-in-Default-clause-found t c =
    let s = means c.args.scope.now in
    subst (λ (x : CaseTree). IsFoundCase c.args.timing s x c.args.rest c.default.result) (sym (ap (λ (i : code_item.CaseItem). view_case i) c.in-Default.is))
    (default_found c.args.timing s (view c.in-Default.tree) c.in_ok-act-in-Default.act c.args.rest c.default.result c.in_ok-act-in-Default.ensures.found c.default.ensures)

pub statement-returns-in_ok-parts-in-Block-clause-found : goal.statement-returns-in_ok-parts-in-Block-clause-found
statement-returns-in_ok-parts-in-Block-clause-found t c =
    let s = means c.args.scope.now in
    let xs = c.in-Block.statements.items in
    let parts = c.in_ok-parts-in-Block.parts in
    let e : view c.args.tree.now ≡ Block c.in-Block.label (statement_list xs) = search (rules, the_lemmas, row_statements) in
    subst (λ (x : StatementTree). IfOk c.block.result (IsFoundStatement c.args.timing s x)) (sym e)
    (block_found c.args.timing s c.in-Block.label (statement_list xs) parts c.block.result
    (subst (λ (ys : List code.Statement). AreFoundStatements c.args.timing s (statement_list ys) parts) c.deref.ensures.value c.in_ok-parts-in-Block.ensures.found) c.block.ensures.checks)

pub statement-returns-in_ok-parts-in-Case-clause-found : goal.statement-returns-in_ok-parts-in-Case-clause-found
statement-returns-in_ok-parts-in-Case-clause-found t c =
    let s = means c.args.scope.now in
    let xs = c.in-Case.items.items in
    let parts = c.in_ok-parts-in-Case.parts in
    let v = expression.view c.in-Case.selector in
    let e : view c.args.tree.now ≡ Case c.in-Case.kind v (case_list xs) = search (rules, the_lemmas, row_cases) in
    subst (λ (x : StatementTree). IfOk c.case.result (IsFoundStatement c.args.timing s x)) (sym e)
    (case_found c.args.timing s c.in-Case.kind v (case_list xs) c.in_ok-value-in-Case.value parts c.case.result c.in_ok-value-in-Case.ensures
    (subst (λ (ys : List code_item.CaseItem). AreFoundCases c.args.timing s (case_list ys) parts) c.deref-in-Case.ensures.value c.in_ok-parts-in-Case.ensures.found) c.case.ensures)

pub statement-returns-in-Null-clause-found : goal.statement-returns-in-Null-clause-found
statement-returns-in-Null-clause-found t c =
    let s = means c.args.scope.now in
    subst (λ (x : code.Statement). IsFoundStatement c.args.timing s (view x) c.without_effect.result) (sym c.in-Null.is) (c.without_effect.ensures.null c.args.timing s)

pub statement-returns-in-TaskEnable-clause-found : goal.statement-returns-in-TaskEnable-clause-found
statement-returns-in-TaskEnable-clause-found t c =
    let s = means c.args.scope.now in
    subst (λ (x : code.Statement). IsFoundStatement c.args.timing s (view x) c.without_effect-in-TaskEnable.result) (sym c.in-TaskEnable.is)
    (c.without_effect-in-TaskEnable.ensures.task c.args.timing s _ _)

pub statement-returns-in-Delay-clause-found : goal.statement-returns-in-Delay-clause-found
statement-returns-in-Delay-clause-found t c =
    let s = means c.args.scope.now in
    subst (λ (x : code.Statement). IsFoundStatement c.args.timing s (view x) c.without_effect-in-Delay.result) (sym c.in-Delay.is)
    (c.without_effect-in-Delay.ensures.delay c.args.timing s _ _)

pub for_loop-returns-in_ok-parts-in-Ok-2-clause-found : goal.for_loop-returns-in_ok-parts-in-Ok-2-clause-found
for_loop-returns-in_ok-parts-in-Ok-2-clause-found t c =
    let s = means c.args.scope.now in
    let h = view_header c.args.header.now in
    let n = c.args.header.now.initial.name.name in
    loop_result c.args.timing s c.args.place h (view c.args.body.now) (means c.turns.new.scope) c.bytes-name.result.now c.in-Ok.object c.in-Ok-2.turns c.register.result _
    c.in_ok-parts-in-Ok-2.parts c.block.result c.in_ok-turns-in-Ok.ensures.scope c.bytes-name.ensures c.register.ensures.is c.in-Ok.is
    (subst (λ (q : Result DataObject Broken). IfOk q (λ o. find n s ≡ Some (Object o))) c.in-Ok.is c.register.ensures.object) c.in_ok-turns-in-Ok.ensures.value c.in-Ok-2.is
    c.in_ok-parts-in-Ok-2.ensures.found c.block.ensures.made

pub for_loop-returns-in-Err-2-clause-found : goal.for_loop-returns-in-Err-2-clause-found
for_loop-returns-in-Err-2-clause-found t c =
    turns_lost c.args.timing (means c.args.scope.now) c.args.place (view_header c.args.header.now) (view c.args.body.now) c.in-Ok.object c.register.result _ c.in-Err-2.fault
    c.register.ensures.is c.in-Ok.is c.in_ok-turns-in-Ok.ensures.value c.in-Err-2.is

use Rattle.std.proofs.Common.{length, arith, sym, ap, ◌∙◌, ◌++◌, ◌∷◌, []}
use Rattle.std.proofs.lemmas.Result.{err_from_is_err_and}
use Rattle.v_syntax.specs.StatementTrees.{view, view_case}
use Rattle.v_expression.proofs.PhraseLemmas.Loops.{items_stop, items_empty, items_more, items_fail}
use Rattle.v_statement.specs.Firsts.{starts_statement, starts_case}
use Rattle.v_statement.specs.Reading.{lower, case_item_of}
use Rattle.v_statement.proofs.statements.+statements.Goals as goal
use Rattle.v_statement.proofs.statements.+statements.Goals.{statements_at-else-loop-test, statements_at-then-loop-test+then-not-starts_statement, case_items_at-else-loop-test, case_items_at-then-loop-test+then-not-starts_case}

pub statements_at-returns-in_err-another : goal.statements_at-returns-in_err-another
statements_at-returns-in_err-another t c =
    let q = err_from_is_err_and c.from_residual.result c.from_residual.ensures.1 in
    rw (q.1, q.2) (items_fail view (starts_statement c.args.place) (lower c.args.total c.args.room c.args.place) c.loop.all.items (length c.args.tokens.now) c.loop.counter c.loop.rest.now
    _ _ c.loop-test.true (sym c.starts_statement.ensures ∙ c.if-not-starts_statement.false) c.loop.invariant c.in_err-another.ensures)

pub statements_at-loop-preserved : goal.statements_at-loop-preserved
statements_at-loop-preserved t c =
    items_more view (starts_statement c.args.place) (lower c.args.total c.args.room c.args.place) c.loop.all.items (length c.args.tokens.now) c.loop.counter c.loop.rest.now
    _ c.in_ok-another.another.value _ c.loop-test.true (sym c.starts_statement.ensures ∙ c.if-not-starts_statement.false)
    (c.in_ok-push.ensures.items ∙ ap (λ s. c.loop.all.items ++ (s ∷ [])) c.into_inner.ensures) c.in_ok-another.ensures ∙ c.loop.invariant

pub case_items_at-returns-in_err-another : goal.case_items_at-returns-in_err-another
case_items_at-returns-in_err-another t c =
    let q = err_from_is_err_and c.from_residual-in_err-another.result c.from_residual-in_err-another.ensures.1 in
    let s = lower c.args.total c.args.room c.args.place in
    rw (q.1, q.2) (items_fail view_case starts_case (case_item_of c.args.total c.args.room s) c.loop.all.items (length c.in_ok-first.behind.now) c.loop.counter c.loop.rest.now
    _ _ c.loop-test.true (sym c.starts_case.ensures ∙ c.if-not-starts_case.false) c.loop.invariant c.in_err-another.ensures)

pub case_items_at-loop-preserved : goal.case_items_at-loop-preserved
case_items_at-loop-preserved t c =
    let s = lower c.args.total c.args.room c.args.place in
    items_more view_case starts_case (case_item_of c.args.total c.args.room s) c.loop.all.items (length c.in_ok-first.behind.now) c.loop.counter c.loop.rest.now
    _ c.in_ok-another.another _ c.loop-test.true (sym c.starts_case.ensures ∙ c.if-not-starts_case.false) c.in_ok-push-2.ensures.items c.in_ok-another.ensures ∙ c.loop.invariant

pub statements_at-returns : goal.statements_at-returns
statements_at-returns t c =
    let p = lower c.args.total c.args.room c.args.place in
    elim c.loop-test.branch [
      | statements_at-else-loop-test w ↦ sym c.loop.invariant ∙ items_empty view (starts_statement c.args.place) p c.loop.all.items (length c.args.tokens.now) c.loop.counter c.loop.rest.now (omega arith)
      | statements_at-then-loop-test+then-not-starts_statement w ↦
          sym c.loop.invariant ∙ items_stop view (starts_statement c.args.place) p c.loop.all.items (length c.args.tokens.now) c.loop.counter c.loop.rest.now (sym w.starts_statement.ensures ∙ w.if-not-starts_statement.true)
    ]

pub case_items_at-returns : goal.case_items_at-returns
case_items_at-returns t c =
    let p = case_item_of c.args.total c.args.room (lower c.args.total c.args.room c.args.place) in
    elim c.loop-test.branch [
      | case_items_at-else-loop-test w ↦ sym c.loop.invariant ∙ items_empty view_case starts_case p c.loop.all.items (length c.in_ok-first.behind.now) c.loop.counter c.loop.rest.now (omega arith)
      | case_items_at-then-loop-test+then-not-starts_case w ↦
          sym c.loop.invariant ∙ items_stop view_case starts_case p c.loop.all.items (length c.in_ok-first.behind.now) c.loop.counter c.loop.rest.now (sym w.starts_case.ensures ∙ w.if-not-starts_case.true)
    ]

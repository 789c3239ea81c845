use Rattle.std.proofs.Common.{◌≡◌, ◌+◌, ◌-◌, ◌*◌, map}
use Rattle.v_syntax.specs.StatementTrees.{view, view_case}
use Rattle.v_expression.specs.Phrase.Readers.{many_by, with_front}
use Rattle.v_statement.specs.Firsts.{starts_statement, starts_case}
use Rattle.v_statement.specs.Reading.{lower, statements_of, case_item_of, case_items_of}
use Rattle.v_statement.proofs.statements.+statements.Given as goal

abbrev pub decreases-statement_at : goal.decreases-statement_at
decreases-statement_at l = l.room * 20 + 11

abbrev pub decreases-block_at : goal.decreases-block_at
decreases-block_at l = l.room * 20 + 10

abbrev pub decreases-conditional_at : goal.decreases-conditional_at
decreases-conditional_at l = l.room * 20 + 10

abbrev pub decreases-case_at : goal.decreases-case_at
decreases-case_at l = l.room * 20 + 10

abbrev pub decreases-for_at : goal.decreases-for_at
decreases-for_at l = l.room * 20 + 10

abbrev pub decreases-case_items_at : goal.decreases-case_items_at
decreases-case_items_at l = l.room * 20 + 9

abbrev pub decreases-case_item_at : goal.decreases-case_item_at
decreases-case_item_at l = l.room * 20 + 8

abbrev pub decreases-otherwise_at : goal.decreases-otherwise_at
decreases-otherwise_at l = l.room * 20 + 7

abbrev pub decreases-statements_at : goal.decreases-statements_at
decreases-statements_at l = l.room * 20 + 5

abbrev pub decreases-lower_at : goal.decreases-lower_at
decreases-lower_at l = l.room * 20 + 4

abbrev pub invariant-statements_at-loop : goal.invariant-statements_at-loop
invariant-statements_at-loop l =
    with_front (map view l.all.items) (many_by (starts_statement l.place) (lower l.total l.room l.place) (l.end - l.counter) l.rest)
    ≡ statements_of l.place (lower l.total l.room l.place) l.fn.tokens

abbrev pub invariant-case_items_at-loop : goal.invariant-case_items_at-loop
invariant-case_items_at-loop l =
    let s = lower l.total l.room l.place in
    with_front (map view_case l.all.items) (many_by starts_case (case_item_of l.total l.room s) (l.end - l.counter) l.rest)
    ≡ case_items_of l.total l.room s l.fn.tokens

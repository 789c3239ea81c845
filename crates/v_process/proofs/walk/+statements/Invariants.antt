-- What stands behind, and how the calls come to an end.
use Rattle.std.proofs.Common.{◌≡◌, ◌+◌, ◌*◌, drop}
use Rattle.v_flat.specs.Scope.Scope.{means}
use Rattle.v_syntax.specs.StatementTrees.{view}
use Rattle.v_process.specs.Lists.{AreFoundStatements, AreFoundCases, statement_list, case_list}
use Rattle.v_process.specs.Turns.{AreTurns}
use Rattle.v_process.proofs.walk.+statements.Given as goal

abbrev pub decreases-statement : goal.decreases-statement
decreases-statement l = 4 * goal.size-statement l + 0

abbrev pub decreases-all : goal.decreases-all
decreases-all l = 4 * goal.size-all l + 1

abbrev pub decreases-case_item : goal.decreases-case_item
decreases-case_item l = 4 * goal.size-case_item l + 1

abbrev pub decreases-case_items : goal.decreases-case_items
decreases-case_items l = 4 * goal.size-case_items l + 2

abbrev pub decreases-in_turn : goal.decreases-in_turn
decreases-in_turn l = 4 * goal.size-in_turn l + 1

abbrev pub decreases-all_turns : goal.decreases-all_turns
decreases-all_turns l = 4 * goal.size-all_turns l + 2

abbrev pub decreases-for_loop : goal.decreases-for_loop
decreases-for_loop l = 4 * goal.size-for_loop l + 3

abbrev pub invariant-all-loop-at : goal.invariant-all-loop-at
invariant-all-loop-at l =
    AreFoundStatements l.timing (means l.initial.scope) (statement_list (drop l.at l.statements)) l.found × (means l.scope ≡ means l.initial.scope)

abbrev pub invariant-case_items-loop-at : goal.invariant-case_items-loop-at
invariant-case_items-loop-at l = AreFoundCases l.timing (means l.initial.scope) (case_list (drop l.at l.items)) l.found × (means l.scope ≡ means l.initial.scope)

abbrev pub invariant-all_turns-loop-at : goal.invariant-all_turns-loop-at
invariant-all_turns-loop-at l =
    AreTurns l.timing (means l.initial.scope) l.name l.object (view l.body) (drop l.at l.values, l.turns.1) l.found × (means l.scope ≡ means l.initial.scope)

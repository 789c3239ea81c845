use Rattle.std.proofs.Common.{◌≡◌, ◌+◌, length, ◌-◌, ◌*◌}
use Rattle.v_syntax.specs.ExpressionTrees.{view, views}
use Rattle.v_expression.specs.Reading as reading
use Rattle.v_expression.specs.Reading.{layer, steps_of, others_of, parts_of}
use Rattle.v_expression.specs.Measures.{IsMeasured, IsMeasuredParts}
use Rattle.v_expression.specs.Lists.{with_front}
use Rattle.v_expression.proofs.+expressions.Given as goal

abbrev pub decreases-operators::expression_at : goal.decreases-operators::expression_at
decreases-operators::expression_at l = l.room * 20 + 10

abbrev pub decreases-operators::climb_at : goal.decreases-operators::climb_at
decreases-operators::climb_at l = l.room * 20 + 9

abbrev pub decreases-operators::choose_at : goal.decreases-operators::choose_at
decreases-operators::choose_at l = l.room * 20 + 8

abbrev pub decreases-operators::branches_at : goal.decreases-operators::branches_at
decreases-operators::branches_at l = l.room * 20 + 1

abbrev pub decreases-operators::steps_at : goal.decreases-operators::steps_at
decreases-operators::steps_at l = l.room * 20 + 8

abbrev pub decreases-operators::operand_at : goal.decreases-operators::operand_at
decreases-operators::operand_at l = l.room * 20 + 1

abbrev pub decreases-operators::unary_at : goal.decreases-operators::unary_at
decreases-operators::unary_at l = l.room * 20 + 8

abbrev pub decreases-operators::prefixed_at : goal.decreases-operators::prefixed_at
decreases-operators::prefixed_at l = l.room * 20 + 1

abbrev pub decreases-primaries::primary_at : goal.decreases-primaries::primary_at
decreases-primaries::primary_at l = l.room * 20 + 7

abbrev pub decreases-primaries::named_at : goal.decreases-primaries::named_at
decreases-primaries::named_at l = l.room * 20 + 6

abbrev pub decreases-primaries::bracketed_at : goal.decreases-primaries::bracketed_at
decreases-primaries::bracketed_at l = l.room * 20 + 1

abbrev pub decreases-primaries::braced_at : goal.decreases-primaries::braced_at
decreases-primaries::braced_at l = l.room * 20 + 1

abbrev pub decreases-selects::selects_at : goal.decreases-selects::selects_at
decreases-selects::selects_at l = l.room * 20 + 5

abbrev pub decreases-selects::further_at : goal.decreases-selects::further_at
decreases-selects::further_at l = l.room * 20 + 4

abbrev pub decreases-selects::select_at : goal.decreases-selects::select_at
decreases-selects::select_at l = l.room * 20 + 1

abbrev pub decreases-selects::bound_at : goal.decreases-selects::bound_at
decreases-selects::bound_at l = l.below * 20 + 13

abbrev pub decreases-selects::range_at : goal.decreases-selects::range_at
decreases-selects::range_at l = l.below * 20 + 12

abbrev pub decreases-selects::last_at : goal.decreases-selects::last_at
decreases-selects::last_at l = l.below * 20 + 11

abbrev pub decreases-primaries::inside_at : goal.decreases-primaries::inside_at
decreases-primaries::inside_at l = l.below * 20 + 13

abbrev pub decreases-primaries::replication_at : goal.decreases-primaries::replication_at
decreases-primaries::replication_at l = l.below * 20 + 12

abbrev pub decreases-primaries::parts_at : goal.decreases-primaries::parts_at
decreases-primaries::parts_at l = l.below * 20 + 11

abbrev pub invariant-operators::steps_at-loop : goal.invariant-operators::steps_at-loop
invariant-operators::steps_at-loop l = record {
  same : steps_of l.room (reading.below l.total l.room) l.min (l.end - l.counter) (view l.left.expression.value) l.rest
      ≡ steps_of l.room (reading.below l.total l.room) l.min (length l.fn.tokens) (view l.fn.first.expression.value) l.fn.tokens;
  measured : IsMeasured (l.room + 1) l.left;
}

abbrev pub invariant-primaries::parts_at-loop : goal.invariant-primaries::parts_at-loop
invariant-primaries::parts_at-loop l =
    let sub = layer l.total l.below (reading.below l.total l.below) in
    record {
      same : with_front (views l.all.parts.items) (others_of sub (l.end - l.counter) l.rest) ≡ parts_of sub (view l.fn.first.expression.value) l.fn.tokens;
      measured : IsMeasuredParts (l.below + 1) l.all;
    }

use Rattle.std.proofs.Common.{◌≡◌, ◌+◌, ◌-◌, ◌*◌}
use Rattle.v_syntax.specs.ExpressionTrees.{view_target, view_targets}
use Rattle.v_expression.specs.Reading as reading
use Rattle.v_expression.specs.Reading.{layer, other_targets_of, target_parts_of}
use Rattle.v_expression.specs.Lists.{with_front_targets}
use Rattle.v_expression.proofs.targets.+targets.Given as goal

abbrev pub decreases-target_at : goal.decreases-target_at
decreases-target_at l = l.room * 4 + 2

abbrev pub decreases-joined_at : goal.decreases-joined_at
decreases-joined_at l = l.room * 4 + 1

abbrev pub decreases-target_parts_at : goal.decreases-target_parts_at
decreases-target_parts_at l = l.below * 4 + 3

abbrev pub invariant-target_parts_at-loop : goal.invariant-target_parts_at-loop
invariant-target_parts_at-loop l =
    let sub = layer l.total l.below (reading.below l.total l.below) in
    with_front_targets (view_targets l.all.items) (other_targets_of sub (l.end - l.counter) l.rest) ≡ target_parts_of sub (view_target l.fn.first.value) l.fn.tokens

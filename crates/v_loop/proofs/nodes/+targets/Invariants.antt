-- What was counted, and the targets that are left.
use Rattle.std.proofs.Common.{◌≡◌, ◌≤◌, ◌+◌, drop}
use Rattle.v_syntax.specs.ExpressionTrees.{view_targets}
use Rattle.v_loop.specs.Unrolled.{most_unrolled, targets_nodes}
use Rattle.v_loop.proofs.nodes.+targets.Given as goal

abbrev pub invariant-count_targets-loop-target : goal.invariant-count_targets-loop-target
invariant-count_targets-loop-target l = record {
  all : l.initial.unrolled + targets_nodes (view_targets l.targets) ≡ l.unrolled + targets_nodes (view_targets (drop l.target-index l.targets));
  more : l.initial.unrolled ≤ l.unrolled;
  few : l.initial.unrolled ≤ most_unrolled → l.unrolled ≤ most_unrolled;
}

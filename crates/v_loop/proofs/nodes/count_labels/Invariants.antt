-- What was counted, and the items that are left.
use Rattle.std.proofs.Common.{◌≡◌, ◌≤◌, ◌+◌, drop, map}
use Rattle.v_syntax.specs.StatementTrees.{case_trees, view_case}
use Rattle.v_loop.specs.Unrolled.{labels_nodes, most_unrolled}
use Rattle.v_loop.proofs.nodes.count_labels.Given as goal

abbrev pub invariant-loop-item : goal.invariant-loop-item
invariant-loop-item l = record {
  all : l.initial.unrolled + labels_nodes (case_trees (map view_case l.items)) ≡ l.unrolled + labels_nodes (case_trees (map view_case (drop l.item-index l.items)));
  more : l.initial.unrolled ≤ l.unrolled;
  few : l.initial.unrolled ≤ most_unrolled → l.unrolled ≤ most_unrolled;
}

-- What was counted, and the expressions that are left.
use Rattle.std.proofs.Common.{◌≡◌, ◌≤◌, ◌+◌, drop}
use Rattle.v_syntax.specs.ExpressionTrees.{views}
use Rattle.v_loop.specs.Unrolled.{all_nodes, most_unrolled}
use Rattle.v_loop.proofs.nodes.+counting.Given as goal

abbrev pub invariant-count_all-loop-expression : goal.invariant-count_all-loop-expression
invariant-count_all-loop-expression l = record {
  all : l.initial.unrolled + all_nodes (views l.expressions) ≡ l.unrolled + all_nodes (views (drop l.expression-index l.expressions));
  more : l.initial.unrolled ≤ l.unrolled;
  few : l.initial.unrolled ≤ most_unrolled → l.unrolled ≤ most_unrolled;
}

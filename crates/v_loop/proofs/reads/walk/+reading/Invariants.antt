-- What was read, the expressions that are left, and what stood before.
use Rattle.std.proofs.Common.{◌≡◌, ◌++◌, drop, length, take}
use Rattle.v_flat.specs.Scope.Scope.{means}
use Rattle.v_syntax.specs.ExpressionTrees.{views}
use Rattle.v_flat.specs.Statements.{all_read}
use Rattle.v_loop.specs.Reads.Reads.{spans_of}
use Rattle.v_loop.proofs.reads.walk.+reading.Given as goal

abbrev pub invariant-add_all-loop-expression : goal.invariant-add_all-loop-expression
invariant-add_all-loop-expression l = record {
  all : spans_of l.initial.spans.items ++ all_read (means l.scope) (views l.expressions)
      ≡ spans_of l.spans.items ++ all_read (means l.scope) (views (drop l.expression-index l.expressions));
  front : take (length l.initial.spans.items) l.spans.items ≡ l.initial.spans.items;
}

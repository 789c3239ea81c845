-- What was read, the labels that are left, and what stood before.
use Rattle.std.proofs.Common.{◌≡◌, ◌++◌, drop, length, map, take}
use Rattle.v_flat.specs.Scope.Scope.{means}
use Rattle.v_syntax.specs.ExpressionTrees.{view}
use Rattle.v_flat.specs.Statements.{labels_read}
use Rattle.v_loop.specs.Reads.Reads.{spans_of}
use Rattle.v_loop.proofs.sensitivity.added.add_labels.Given as goal

abbrev pub invariant-loop-label : goal.invariant-loop-label
invariant-loop-label l = record {
  all : spans_of l.initial.spans.items ++ labels_read (means l.scope) (map view l.labels)
      ≡ spans_of l.spans.items ++ labels_read (means l.scope) (map view (drop l.label-index l.labels));
  front : take (length l.initial.spans.items) l.spans.items ≡ l.initial.spans.items;
}

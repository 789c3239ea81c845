-- What was read, the targets that are left, and what stood before.
use Rattle.std.proofs.Common.{◌≡◌, ◌++◌, drop, length, take}
use Rattle.v_flat.specs.Scope.Scope.{means}
use Rattle.v_syntax.specs.ExpressionTrees.{view_targets}
use Rattle.v_flat.specs.Statements.{targets_read}
use Rattle.v_loop.specs.Reads.Reads.{spans_of}
use Rattle.v_loop.proofs.sensitivity.targets.+targets.Given as goal

abbrev pub invariant-add_targets-loop-target : goal.invariant-add_targets-loop-target
invariant-add_targets-loop-target l = record {
  all : spans_of l.initial.spans.items ++ targets_read (means l.scope) (view_targets l.targets)
      ≡ spans_of l.spans.items ++ targets_read (means l.scope) (view_targets (drop l.target-index l.targets));
  front : take (length l.initial.spans.items) l.spans.items ≡ l.initial.spans.items;
}

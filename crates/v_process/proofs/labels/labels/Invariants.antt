-- The labels behind.
use Rattle.std.proofs.Common.{drop, map}
use Rattle.v_flat.specs.Scope.Scope.{means}
use Rattle.v_syntax.specs.ExpressionTrees.{view}
use Rattle.v_process.specs.Act.Cases.{AreLabels}
use Rattle.v_process.proofs.labels.labels.Given as goal

abbrev pub invariant-loop-at : goal.invariant-loop-at
invariant-loop-at l = AreLabels (means l.scope) (map view (drop l.at l.expressions)) l.found

-- The parts behind.
use Rattle.std.proofs.Common.{drop}
use Rattle.v_flat.specs.Scope.Scope.{means}
use Rattle.v_syntax.specs.ExpressionTrees.{view_targets}
use Rattle.v_process.specs.Assign.Targets.{AreProcedural}
use Rattle.v_process.proofs.assign.walk.+walking.Given as goal

abbrev pub invariant-all-loop-at : goal.invariant-all-loop-at
invariant-all-loop-at l = AreProcedural (means l.scope) (view_targets (drop l.at l.targets)) l.found

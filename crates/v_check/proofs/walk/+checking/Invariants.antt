-- The parts behind.
use Rattle.std.proofs.Common.{drop}
use Rattle.v_flat.specs.Scope.Scope.{means}
use Rattle.v_syntax.specs.ExpressionTrees.{views}
use Rattle.v_check.specs.Parts.Parts.{AreChecked}
use Rattle.v_check.proofs.walk.+checking.Given as goal

abbrev pub invariant-all-loop-at : goal.invariant-all-loop-at
invariant-all-loop-at l = AreChecked (means l.scope) (views (drop l.at l.expressions)) l.found

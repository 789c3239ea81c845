-- The parts that are left.
use Rattle.std.proofs.Common.{◌≡◌, drop}
use Rattle.v_flat.specs.Scope.Scope.{means}
use Rattle.v_syntax.specs.ExpressionTrees.{views}
use Rattle.v_flat.specs.Checks.{all_made}
use Rattle.v_check.proofs.constants.made.+made.Given as goal

abbrev pub invariant-are_made-loop-expression : goal.invariant-are_made-loop-expression
invariant-are_made-loop-expression l = all_made (means l.scope) (views l.expressions) ≡ all_made (means l.scope) (views (drop l.expression-index l.expressions))

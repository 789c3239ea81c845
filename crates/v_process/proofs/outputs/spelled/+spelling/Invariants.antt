-- The parts that are left.
use Rattle.std.proofs.Common.{◌≡◌, drop, is_some}
use Rattle.v_syntax.specs.ExpressionTrees.{views}
use Rattle.v_flat.specs.Targets.{as_targets}
use Rattle.v_process.proofs.outputs.spelled.+spelling.Given as goal

abbrev pub invariant-spell_targets-loop-expression : goal.invariant-spell_targets-loop-expression
invariant-spell_targets-loop-expression l = is_some (as_targets (views l.expressions)) ≡ is_some (as_targets (views (drop l.expression-index l.expressions)))

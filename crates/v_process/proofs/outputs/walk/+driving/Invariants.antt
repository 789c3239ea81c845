-- The parts on the left are done, and those digits that were driven are.
use Rattle.std.proofs.Common.{drop}
use Rattle.v_flat.specs.Scope.Scope.{means}
use Rattle.v_syntax.specs.ExpressionTrees.{views}
use Rattle.v_flat.specs.Targets.{as_targets}
use Rattle.v_process.specs.Assign.Continuous.{KeepsOrGrows}
use Rattle.v_process.proofs.OutputsLemmas.Walked.{OnwardFrom}
use Rattle.v_process.proofs.outputs.walk.+driving.Given as goal

abbrev pub invariant-each_part-loop-expression : goal.invariant-each_part-loop-expression
invariant-each_part-loop-expression l =
    OnwardFrom l.place (means l.scope) (as_targets (views l.expressions)) l.initial.driven l.found.items (as_targets (views (drop l.expression-index l.expressions))) l.driven
    × KeepsOrGrows l.initial.driven l.driven

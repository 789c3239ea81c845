-- The parts on the left are done, and the driven digits only grew.
use Rattle.std.proofs.Common.{drop}
use Rattle.v_flat.specs.Scope.Scope.{means}
use Rattle.v_syntax.specs.ExpressionTrees.{view_targets}
use Rattle.v_process.specs.Assign.Continuous.{KeepsOrGrows}
use Rattle.v_process.proofs.AssignLemmas.Onward.{Onward}
use Rattle.v_process.proofs.assign.continuous.+driving.Given as goal

abbrev pub invariant-each_part-loop-target : goal.invariant-each_part-loop-target
invariant-each_part-loop-target l =
    Onward l.place (means l.scope) (view_targets l.targets) l.initial.driven l.found.items (view_targets (drop l.target-index l.targets)) l.driven
    × KeepsOrGrows l.initial.driven l.driven

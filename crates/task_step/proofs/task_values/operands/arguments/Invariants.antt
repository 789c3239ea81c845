use Rattle.std.proofs.Common.{◌≡◌, ◌++◌, map}
use Rattle.test_meaning.specs.Body.Views.{view_operand}
use Rattle.rig_model.specs.Task.Calls.{arguments}
use Rattle.task_step.specs.TaskValues.Arguments.{arguments_in}
use Rattle.task_step.proofs.TaskValuesLemmas.Given.{from_parameter}
use Rattle.task_step.proofs.task_values.operands.arguments.Given as goal

abbrev pub invariant-loop-parameter : goal.invariant-loop-parameter
invariant-loop-parameter l = l.values ++ from_parameter l.operands l.parameter l.given ≡ arguments 0 (map view_operand l.operands) (arguments_in l.given)

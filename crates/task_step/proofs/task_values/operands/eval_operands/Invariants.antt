use Rattle.std.proofs.Common.{◌≡◌, ◌≤◌, drop, map}
use Rattle.py_evaluate.specs.Gives.{scope}
use Rattle.test_meaning.specs.Body.Views.{view_operand}
use Rattle.rig_model.specs.Task.Calls.{eval_operands}
use Rattle.task_step.specs.TaskValues.Arguments.{arguments_in}
use Rattle.task_step.proofs.TaskValuesLemmas.Rows.{behind, operand_value, row}
use Rattle.task_step.proofs.task_values.operands.eval_operands.Given as goal

abbrev pub invariant-loop-o : goal.invariant-loop-o
invariant-loop-o g l =
    let s = scope l.task (g.N.Locals.names l.names) (g.V.Look.view l.view) in
    record {
      whole : behind (arguments_in l.given.items) (row (operand_value s) (drop l.o-index l.operands) l.next) ≡ eval_operands s (map view_operand l.operands) l.initial.next;
      rises : l.initial.next ≤ l.next;
    }

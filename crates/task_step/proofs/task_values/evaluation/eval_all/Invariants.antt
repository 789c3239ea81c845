use Rattle.std.proofs.Common.{◌≡◌, ◌≤◌, drop, map}
use Rattle.py_syntax.specs.ExpressionTrees.{view}
use Rattle.py_evaluate.specs.Attribute.Knows.{KnowsAll}
use Rattle.py_evaluate.specs.Gives.{scope}
use Rattle.rig_model.specs.Task.Moves.{eval_all}
use Rattle.task_step.proofs.TaskValuesLemmas.Rows.{behind, expression_value, row}
use Rattle.task_step.proofs.task_values.evaluation.eval_all.Given as goal

abbrev pub invariant-loop-e : goal.invariant-loop-e
invariant-loop-e g l =
    let s = scope l.task (g.N.Locals.names l.names) (g.V.Look.view l.view) in
    record {
      whole : behind l.values.items (row (expression_value s) (drop l.e-index l.es) l.next) ≡ eval_all s (map view l.es) l.initial.next;
      known : KnowsAll (g.V.Look.view l.view) l.values.items;
      rises : l.initial.next ≤ l.next;
    }

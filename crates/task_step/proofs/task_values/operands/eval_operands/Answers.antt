use Rattle.std.proofs.Common.{◌∙◌, arith, map}
use Rattle.std.proofs.lemmas.Result.{err_from_is_err_and}
use Rattle.py_evaluate.specs.Gives.{scope}
use Rattle.test_meaning.specs.Body.Views.{view_operand}
use Rattle.rig_model.specs.Task.Calls.{eval_operands}
use Rattle.task_step.specs.TaskValues.Arguments.{arguments_in}
use Rattle.task_step.proofs.TaskValuesLemmas.Given.{arguments_more}
use Rattle.task_step.proofs.TaskValuesLemmas.Rows.{behind_none, operand_value, operands_row, operand_given, operand_fault, row, row_step, row_fault, row_end}
use Rattle.task_step.proofs.task_values.operands.eval_operands.Goals as goal

pub loop-o-init : goal.loop-o-init
loop-o-init g c =
    let s = scope c.args.task (g.N.Locals.names c.args.names.now) (g.V.Look.view c.args.view.now) in
    rw c.new-given.ensures.items record {
      whole = behind_none (row (operand_value s) c.args.operands.now c.args.next.now) ∙ operands_row s c.args.operands.now c.args.next.now;
      rises = omega arith;
    }

pub loop-o-preserved : goal.loop-o-preserved
loop-o-preserved g c =
    let s = scope c.args.task (g.N.Locals.names c.args.names.now) (g.V.Look.view c.args.view.now) in
    let before = c.loop-o.invariant.rises in
    let rises = c.in_ok-value.ensures.is.rises in
    let given = operand_given s c.o-item.result c.loop-o.next c.eval.new.next c.in_ok-value.value c.in_ok-value.ensures.is.ends in
    rw c.in_ok-push.ensures.items record {
      whole = rw (arguments_more c.loop-o.given.items (record { parameter = c.o-item.result.parameter; value = c.in_ok-value.value }))
          (row_step (operand_value s) c.args.operands.now c.loop-o.o-index c.o-item.result (arguments_in c.loop-o.given.items) c.loop-o.next c.eval.new.next
          (record { parameter = c.o-item.result.parameter; value = c.in_ok-value.value })
          (eval_operands s (map view_operand c.args.operands.now) c.args.next.now) c.loop-o-test.true c.o-item.is c.loop-o.invariant.whole given);
      rises = omega (arith, before, rises);
    }

pub returns-in_err-value : goal.returns-in_err-value
returns-in_err-value g c =
    let s = scope c.args.task (g.N.Locals.names c.args.names.now) (g.V.Look.view c.args.view.now) in
    let p = err_from_is_err_and c.from_residual.result c.from_residual.ensures.1 in
    let before = c.loop-o.invariant.rises in
    let rises = c.in_err-value.ensures.is.rises in
    rw (p.1, p.2) record {
      ends = row_fault (operand_value s) c.args.operands.now c.loop-o.o-index c.o-item.result (arguments_in c.loop-o.given.items) c.loop-o.next c.eval.new.next
          c.in_err-value.field-0.0 (eval_operands s (map view_operand c.args.operands.now) c.args.next.now) c.loop-o-test.true c.o-item.is c.loop-o.invariant.whole
          (operand_fault s c.o-item.result c.loop-o.next c.eval.new.next c.in_err-value.field-0.0 c.in_err-value.ensures.is.ends);
      rises = omega (arith, before, rises);
    }

pub returns : goal.returns
returns g c =
    let s = scope c.args.task (g.N.Locals.names c.args.names.now) (g.V.Look.view c.args.view.now) in
    record {
      ends = row_end (operand_value s) c.args.operands.now c.loop-o.o-index (arguments_in c.loop-o.given.items) c.loop-o.next
          (eval_operands s (map view_operand c.args.operands.now) c.args.next.now) c.loop-o-test.false c.loop-o.invariant.whole;
      rises = c.loop-o.invariant.rises;
    }

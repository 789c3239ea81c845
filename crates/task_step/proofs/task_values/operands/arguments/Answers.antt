use Rattle.std.proofs.Common.{◌<◌, ◌≤◌, length, arith, map}
use Rattle.test_meaning.specs.Body.Views.{view_operand}
use Rattle.rig_model.specs.Task.Calls.{arguments}
use Rattle.task_step.specs.TaskValues.Arguments.{arguments_in}
use Rattle.task_step.proofs.TaskValuesLemmas.Given.{arguments_step, arguments_end}
use Rattle.task_step.proofs.task_values.operands.arguments.Goals as goal

pub loop-parameter-preserved : goal.loop-parameter-preserved
loop-parameter-preserved c =
    let below : c.loop-parameter.parameter < length c.args.operands.now = omega arith in
    rw c.in_ok-push.ensures.ok
    (arguments_step c.args.operands.now c.loop-parameter.parameter c.args.given.now c.loop-parameter.values c.in_ok-argument_or_none.field-0
    (arguments 0 (map view_operand c.args.operands.now) (arguments_in c.args.given.now)) below c.loop-parameter.invariant c.in_ok-argument_or_none.ensures)

pub returns : goal.returns
returns c =
    let above : length c.args.operands.now ≤ c.loop-parameter.parameter = omega arith in
    arguments_end c.args.operands.now c.loop-parameter.parameter c.args.given.now c.loop-parameter.values
    (arguments 0 (map view_operand c.args.operands.now) (arguments_in c.args.given.now)) above c.loop-parameter.invariant

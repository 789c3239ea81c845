use Rattle.std.proofs.Common.{◌≡◌, rules}
use Rattle.py_value.specs.Answer.{answer_map}
use Rattle.rig_model.specs.Task.Values as values
use Rattle.task_step.specs.StatementValues.Kept.{draw_in}
use Rattle.task_step.proofs.statement_values.draws.drawn.Goals as goal
use Rattle.task_step.proofs.StatementValuesLemmas.Spans.{kept_known}

pub returns-clause-known : goal.returns-clause-known
returns-clause-known c =
    let is : answer_map draw_in c.operand_draw.result ≡ values.drawn c.args.low.now c.args.high.now = search rules in
    kept_known c.args.low.now c.args.high.now c.operand_draw.result is

use Rattle.scheduler.proofs.InOrder.{known_placed}
use Rattle.scheduler.proofs.starts.task_arguments.Goals as goal

pub returns-clause-known : goal.returns-clause-known
returns-clause-known c =
    known_placed c.args.arguments.now c.with_values.result (rw (c.in_ok-push.ensures.ok, c.new-values.ensures) at c.with_values.ensures)

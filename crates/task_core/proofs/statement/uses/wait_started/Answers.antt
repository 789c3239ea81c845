use Rattle.std.proofs.Common.{rules}
use Rattle.task_core.proofs.statement.uses.wait_started.Goals as goal

pub returns-in_ok-first_use-in-Task : goal.returns-in_ok-first_use-in-Task
returns-in_ok-first_use-in-Task g c = λ view. let then = c.wait_limited.ensures view in search rules

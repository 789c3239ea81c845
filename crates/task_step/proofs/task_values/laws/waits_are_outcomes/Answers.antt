use Rattle.task_step.proofs.TaskValuesLemmas.Ways.{value_is, queue_is, limit_is, call_is, lock_is}
use Rattle.task_step.proofs.task_values.laws.waits_are_outcomes.Goals as goal

pub returns-clause-value : goal.returns-clause-value
returns-clause-value c = value_is

pub returns-clause-room : goal.returns-clause-room
returns-clause-room c = queue_is (λ q. q.space_event)

pub returns-clause-items : goal.returns-clause-items
returns-clause-items c = queue_is (λ q. q.items_event)

pub returns-clause-limit : goal.returns-clause-limit
returns-clause-limit c = limit_is

pub returns-clause-call : goal.returns-clause-call
returns-clause-call c = call_is

pub returns-clause-lock : goal.returns-clause-lock
returns-clause-lock c = lock_is

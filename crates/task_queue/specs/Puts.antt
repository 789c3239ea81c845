-- A means of proof: what puts into a queue and gets from one come to, for the proofs of the queues of a test and of the runner.
use Rattle.std.specs.Prelude.{◌≡◌, ℕ, zero, suc, ◌^◌, ◌<◌, ◌≤◌, List, [], ◌∷◌, ◌++◌, drop, if◌then◌else◌}
use Rattle.py_value.specs.declared.trigger.QueueNo.{QueueNo}
use Rattle.py_value.specs.declared.value.Value.{Value}
use Rattle.task_queue.specs.declared.kept.PutAnswer.{PutAnswer}
use Rattle.task_queue.specs.declared.kept.PutAnswer.TheVariants.{Stored, Full, AtLimit}
use Rattle.task_queue.specs.Queues.{TaskQueue, item_limit, queue_at, is_full, is_at_limit, with_items, with_item}

-- how many items a queue of this bound may hold
abbrev pub capacity : ℕ → ℕ
capacity zero = item_limit
capacity (suc bound) = suc bound

-- a bound of 32 bits, and no more items than it tells
pub record IsWithin (bound count : ℕ) : Type 0 where
  pub bound_fits : bound < 2 ^ 32
  pub count_fits : count ≤ capacity bound

-- what becomes of an item that is put into a queue
abbrev pub put_answer : TaskQueue → PutAnswer
put_answer q = if is_full q then Full else (if is_at_limit q then AtLimit else Stored)

-- the items behind such a put
abbrev pub items_after : PutAnswer → Value → List Value → List Value
items_after Stored item items = items ++ item ∷ []
items_after Full item items = items
items_after AtLimit item items = items

-- the queues behind such a put
abbrev pub after_put : PutAnswer → QueueNo → Value → List TaskQueue → List TaskQueue
after_put Stored queue item queues = with_item queue item queues
after_put Full queue item queues = queues
after_put AtLimit queue item queues = queues

-- the queue of that number gives its oldest item and keeps the others
pub record Gives (queue : QueueNo) (item : Value) (before after : List TaskQueue) : Type 0 where
  pub oldest : (queue_at queue before).items ≡ item ∷ drop 1 (queue_at queue before).items
  pub others : after ≡ with_items queue (drop 1 (queue_at queue before).items) before

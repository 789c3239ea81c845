-- The queues of a test, each by its number from 0 in the order in which they were made (cocotb 1.8, `cocotb.queue.Queue`).
use Rattle.std.specs.Prelude.{ℕ, ◌==◌, nat_le, Bool, true, false, not, ◌&&◌, List, [], ◌∷◌, ◌++◌, length, slice_index_or, slice_set}
use Rattle.py_value.specs.declared.trigger.EventNo.{EventNo}
use Rattle.py_value.specs.declared.trigger.QueueNo.{QueueNo}
use Rattle.py_value.specs.declared.value.Value.{Value}

-- how many queues a test may have
abbrev pub queue_limit : ℕ
queue_limit = 32768

-- how many items a queue may hold
abbrev pub item_limit : ℕ
item_limit = 65536

-- A queue: how many items it may hold, where 0 means that it has no bound, its items, the oldest first, and the events that are set exactly while
-- it has an item and exactly while it isn't full.
pub record TaskQueue : Type 0 where
  pub bound : ℕ
  pub items : List Value
  pub items_event : EventNo
  pub space_event : EventNo

-- a new queue has no item
abbrev pub fresh : ℕ → EventNo → EventNo → TaskQueue
fresh bound items_event space_event = record { bound = bound; items = []; items_event = items_event; space_event = space_event }

-- the queue of that number
abbrev pub queue_at : QueueNo → List TaskQueue → TaskQueue
queue_at queue queues = slice_index_or queues queue.0 (fresh 0 (record { 0 = 0 }) (record { 0 = 0 }))

-- its bound is reached
abbrev pub is_full : TaskQueue → Bool
is_full q = not (q.bound == 0) && nat_le q.bound (length q.items)

-- it has no bound, and holds as many items as any queue may
abbrev pub is_at_limit : TaskQueue → Bool
is_at_limit q = (q.bound == 0) && nat_le item_limit (length q.items)

abbrev pub is_empty : List Value → Bool
is_empty [] = true
is_empty (item ∷ items) = false

-- with these items
abbrev pub holding : List Value → TaskQueue → TaskQueue
holding items q = record q { items = items }

-- the queue of that number holds these items
abbrev pub with_items : QueueNo → List Value → List TaskQueue → List TaskQueue
with_items queue items queues = slice_set queues queue.0 (holding items (queue_at queue queues))

-- an item stands behind the others
abbrev pub with_item : QueueNo → Value → List TaskQueue → List TaskQueue
with_item queue item queues = with_items queue ((queue_at queue queues).items ++ item ∷ []) queues

-- A means of proof: what the events of a queue tell after its items have changed, for the proofs of the runner's turns.
use Rattle.std.specs.Prelude.{Bool}
use Rattle.py_value.specs.declared.trigger.QueueNo.{QueueNo}
use Rattle.task_queue.specs.Queues.{TaskQueue, is_empty, is_full, queue_at}
use Rattle.rig_model.specs.Run.Effect.{clears_if, sets_if}
use Rattle.rig_model.specs.Run.Rig.{Rig}

-- an item was put into the queue of that number, which was empty before or not
abbrev pub put_told : Bool → QueueNo → Rig → Rig
put_told was_empty queue c =
    let q : TaskQueue = queue_at queue c.queues in clears_if (is_full q) q.space_event (sets_if was_empty q.items_event c)

-- an item was taken out of it, and it was full before or not
abbrev pub get_told : Bool → QueueNo → Rig → Rig
get_told was_full queue c =
    let q : TaskQueue = queue_at queue c.queues in clears_if (is_empty q.items) q.items_event (sets_if was_full q.space_event c)

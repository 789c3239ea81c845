-- What a task sees of the queues of its test.
use Rattle.std.proofs.Common.{◌≡◌, ◌<◌, List, length, map, sym, subst, arith}
use Rattle.std.specs.Prelude.{slice_index_or}
use Rattle.std.proofs.lemmas.List.{length-map}
use Rattle.std.proofs.Math.ListN.{get_or-map}
use Rattle.gpi.specs.State.{State}
use Rattle.gpi.specs.declared.design.Flat.{Flat}
use Rattle.py_value.specs.declared.trigger.QueueNo.{QueueNo}
use Rattle.py_evaluate.specs.Attribute.Knows.{KnowsEvents}
use Rattle.py_evaluate.specs.Attribute.Look.{SeenQueue}
use Rattle.task_queue.specs.Queues.{TaskQueue, fresh, queue_at}
use Rattle.await_tree.specs.SyncObjects.States.{States}
use Rattle.await_tree.specs.EndedTasks.Endings.{Endings}
use Rattle.run_view.specs.View.{view_of, seen, HaveEvents}

abbrev nothing : TaskQueue
nothing = fresh 0 (record { 0 = 0 }) (record { 0 = 0 })

-- what is seen of the queue of a number
pub seen_at : (queues : List TaskQueue) (q : QueueNo) → slice_index_or (map seen queues) q.0 (seen nothing) ≡ seen (queue_at q queues)
seen_at queues q = get_or-map seen queues q.0 nothing

-- its events were made
pub items_made : (objects : States) (queues : List TaskQueue) (q : QueueNo) → HaveEvents objects queues → q.0 < length queues
    → (queue_at q queues).items_event.0 < length objects.events
items_made objects queues q h b = (h q.0 nothing b).0

pub space_made : (objects : States) (queues : List TaskQueue) (q : QueueNo) → HaveEvents objects queues → q.0 < length queues
    → (queue_at q queues).space_event.0 < length objects.events
space_made objects queues q h b = (h q.0 nothing b).1

-- so the view knows them
pub events_known : (flat : Flat) (state : State) (objects : States) (queues : List TaskQueue) (endings : Endings) → HaveEvents objects queues
    → KnowsEvents (view_of flat state objects queues endings)
events_known flat state objects queues endings h q b =
    let inside : q.0 < length queues = omega (arith, b, length-map queues seen) in
    subst (λ (s : SeenQueue). (s.items_event.0 < length objects.events) × (s.space_event.0 < length objects.events)) (sym (seen_at queues q)) (h q.0 nothing inside)

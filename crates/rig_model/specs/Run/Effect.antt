-- What each thing that a task wants does, and what the task is given next (cocotb 1.8, "Triggers", `cocotb.start_soon`).
use Rattle.std.specs.Prelude.{ℕ, suc, ℤ, ◌+◌, ◌==◌, ◌||◌, nat_lt, nat_le, Bool, true, false, not, List, [], ◌∷◌, ◌++◌, length, filter, Option, None, Some}
use Rattle.gpi.specs.State.{is_end}
use Rattle.gpi.specs.declared.types.SigId.{SigId}
use Rattle.gpi.specs.declared.types.Write.{Write}
use Rattle.py_syntax.specs.declared.fault_kind.FaultKind.{FaultKind}
use Rattle.py_syntax.specs.declared.fault_kind.FaultKind.TheVariants.{QueueEmpty, QueueFull, RuntimeError, TriggerException}
use Rattle.py_value.specs.Answer.{plain_fault}
use Rattle.py_value.specs.declared.trigger.TaskNo.{TaskNo}
use Rattle.py_value.specs.declared.trigger.EventNo.{EventNo}
use Rattle.py_value.specs.declared.trigger.LockNo.{LockNo}
use Rattle.py_value.specs.declared.trigger.QueueNo.{QueueNo}
use Rattle.py_value.specs.declared.value.Value.{Value}
use Rattle.py_value.specs.declared.value.Value.TheVariants as value
use Rattle.py_value.specs.declared.value.Fault.{Fault}
use Rattle.await_tree.specs.Tree.{Tree}
use Rattle.await_tree.specs.Begin.{Begun, begin}
use Rattle.await_tree.specs.Check.{tree_of, check}
use Rattle.await_tree.specs.Steps.{step_of}
use Rattle.await_tree.specs.declared.cause.Step.{Step}
use Rattle.await_tree.specs.declared.cause.Step.TheVariants.{Still, Done}
use Rattle.await_tree.specs.declared.cause.Given.{Given}
use Rattle.await_tree.specs.declared.cause.Given.TheVariants as given
use Rattle.await_tree.specs.declared.cause.Cause.TheVariants as cause
use Rattle.await_tree.specs.EndedTasks.Endings.{start_limit, with_task, with_ending, is_done, told_given}
use Rattle.await_tree.specs.SyncObjects.States.{with_event, with_lock, with_set, with_unset, is_held, with_free, event_limit, lock_limit}
use Rattle.task_queue.specs.Queues.{fresh as empty_queue, queue_at, is_full as has_no_room, is_at_limit, is_empty, with_items, with_item}
use Rattle.run_view.specs.SignalPort.Staging.{restaged}
use Rattle.run_view.specs.RandomStream.Generator.{next, word}
use Rattle.run_view.specs.RandomStream.Draw.{drawn}
use Rattle.test_meaning.specs.Body.BodyTrees.{Function}
use Rattle.rig_model.specs.Task.Frame.{Task, fresh, function_at}
use Rattle.rig_model.specs.declared.task.task.Turned.{Turned}
use Rattle.rig_model.specs.declared.task.task.Turned.TheVariants as turned
use Rattle.await_tree.specs.WaitList.Waiting.{without_task, granted, is_wanted, is_joined}
use Rattle.await_tree.specs.WaitList.Ring.{without_entry}
use Rattle.rig_model.specs.Run.Limits.{live_limit}
use Rattle.rig_model.specs.Run.Line.{log_line}
use Rattle.rig_model.specs.Run.Rig.{Rig, Setup, After, quiet, followed_by, facts_of}
use Rattle.rig_model.specs.Run.Counts.{counted}
use Rattle.rig_model.specs.Run.Serve.{wake, deposit}
use Rattle.await_tree.specs.declared.ended_tasks.ending.Ending.{Ending}
use Rattle.await_tree.specs.declared.ended_tasks.ending.Ending.TheVariants.{Returned, Failed, Killed}
use Rattle.rig_model.specs.declared.run.outcome.Outcome.{Outcome}
use Rattle.rig_model.specs.declared.run.outcome.Outcome.TheVariants as outcome

-- ---- the task goes on

abbrev pub goes_on : TaskNo → Option Given → Rig → Rig
goes_on task g c = record c { running = Some (record { task = task; given = g }) }

-- the task goes on, and is given this
abbrev pub gives : TaskNo → Given → Rig → After
gives task g c = quiet (goes_on task (Some g) c)

abbrev pub gives_value : TaskNo → Value → Rig → After
gives_value task v c = gives task (given.Value v) c

abbrev pub refuses : TaskNo → FaultKind → Rig → After
refuses task kind c = gives task (given.Fault (plain_fault kind)) c

-- ---- waits (cocotb 1.8, "Triggers")

-- the task waits, as the last in the list of waiting tasks: one effect
abbrev pub waits : TaskNo → Tree → Rig → Rig
waits task tree c = counted [] c (record c { waiting = c.waiting ++ record { task = task; tree = tree } ∷ [] })

-- a tree that began: where it is done at once the task goes on with its result, and else it waits
abbrev pub begun_by : TaskNo → Tree → Step → Rig → After
begun_by task tree (Done g) c = gives task (told_given g c.endings) c
begun_by task tree Still c = quiet (waits task tree c)

-- the locks that the leaves of a tree took when it began are held
abbrev pub with_begun : TaskNo → Begun → Rig → After
with_begun task b c = begun_by task b.tree (step_of b.tree) (record c { objects = record c.objects { locks = b.facts.locks } })

-- a tree begins, unless a leaf of it may not
abbrev pub awaits_by : TaskNo → Tree → Option Fault → Rig → After
awaits_by task tree (Some fault) c = gives task (given.Fault fault) c
awaits_by task tree None c = with_begun task (begin tree (facts_of c)) c

-- ---- writes (cocotb 1.8, "Writing values to signals")

-- a write in the read-only phase ends the test, and gives the task nothing; in each other region this is done
abbrev pub write_by : Bool → SigId → After → Rig → After
write_by true sig a c = quiet (record c { outcome = Some (outcome.ReadOnlyWrite sig) })
write_by false sig a c = a

-- the write is staged: one effect
abbrev pub stages : TaskNo → SigId → Write → Rig → After
stages task sig act c = gives_value task value.Absent (counted [] c (record c { staged = restaged sig act c.staged }))

abbrev pub puts : Setup → TaskNo → SigId → Write → Rig → After
puts setup task sig act c = followed_by (deposit setup sig act c) (gives_value task value.Absent)

-- ---- starts (cocotb 1.8, "Coroutines and Tasks")

-- the number of the task that is started next
abbrev pub next_task : Rig → TaskNo
next_task c = record { 0 = length c.endings }

-- no further task may be started
abbrev pub is_full : Rig → Bool
is_full c = nat_le live_limit (length c.tasks) || nat_le start_limit (length c.endings)

-- a new task of that function stands at the back of the ready list
abbrev pub with_new_task : Function → List Value → Rig → Rig
with_new_task function args c = record c {
  tasks = c.tasks ++ fresh (next_task c) function args ∷ [];
  endings = with_task c.endings;
  ready = c.ready ++ record { task = next_task c; given = given.Begin } ∷ [];
}

-- a task that started the task of that number goes on, or gives way and stands behind it
abbrev pub starter : TaskNo → TaskNo → Bool → Rig → After
starter task number true c = quiet (record c { ready = c.ready ++ record { task = task; given = given.Value (value.Task number) } ∷ [] })
starter task number false c = gives_value task (value.Task number) c

-- a start, or the fault of a limit that is reached
abbrev pub starts : Bool → TaskNo → Function → List Value → Bool → Rig → After
starts true task function args give_way c = refuses task RuntimeError c
starts false task function args give_way c = starter task (next_task c) give_way (with_new_task function args c)

-- ---- ends of tasks

abbrev pub is_numbered : TaskNo → Task → Bool
is_numbered number task = task.number.0 == number.0

-- the task of that number is no live one any more, and ended so
abbrev pub with_end : TaskNo → Ending → Rig → Rig
with_end task ending c = record c {
  tasks = filter (λ (t : Task). not (is_numbered task t)) c.tasks;
  endings = with_ending task ending c.endings;
}

-- a task that ends, with a fault or without, serves its joiners: one effect
abbrev pub ends : TaskNo → Ending → Bool → Rig → Rig
ends task ending failed c = counted [] c (wake (cause.Ended task failed) (with_end task ending c))

-- a test ends normally where its own task returns
abbrev pub returned : Bool → Option Outcome → Option Outcome
returned true o = Some outcome.Normal
returned false o = o

abbrev pub returns : TaskNo → Value → Rig → After
returns task v c = let d = ends task (Returned v) false c in quiet (record d { outcome = returned (task.0 == 0) d.outcome })

-- a fault that a task doesn't catch is that of its joiners, and where there is none it ends the test
abbrev pub fails : Bool → TaskNo → Fault → Rig → After
fails true task fault c = quiet (ends task (Failed fault) true c)
fails false task fault c = quiet (record (with_end task (Failed fault) c) { outcome = Some (outcome.Raised fault) })

-- without what is there of the task: its place in the ready list, or its tree
abbrev pub withdrawn : TaskNo → Rig → Rig
withdrawn task c = record c {
  ready = without_entry task c.ready;
  waiting = without_task task c.waiting;
}

-- a kill: the task leaves, and its joiners are served: one effect; locks that it holds stay held
abbrev pub killed : TaskNo → Rig → Rig
killed task c = counted [] c (wake (cause.Ended task false) (with_end task Killed (withdrawn task c)))

-- a task that has ended stays as it is
abbrev pub kills_by : Bool → TaskNo → Rig → Rig
kills_by true other c = c
kills_by false other c = killed other c

-- a task may not kill itself
abbrev pub kills : Bool → TaskNo → TaskNo → Rig → After
kills true task other c = refuses task RuntimeError c
kills false task other c = gives_value task value.Absent (kills_by (is_done other c.endings) other c)

-- ---- events and locks (cocotb 1.8, "Triggers", `Event` and `Lock`)

abbrev pub new_event : Rig → EventNo
new_event c = record { 0 = length c.objects.events }

abbrev pub makes_event : Bool → TaskNo → Rig → After
makes_event true task c = refuses task RuntimeError c
makes_event false task c = gives_value task (value.Event (new_event c)) (record c { objects = with_event c.objects })

abbrev pub new_lock : Rig → LockNo
new_lock c = record { 0 = length c.objects.locks }

abbrev pub makes_lock : Bool → TaskNo → Rig → After
makes_lock true task c = refuses task RuntimeError c
makes_lock false task c = gives_value task (value.Lock (new_lock c)) (record c { objects = with_lock c.objects })

-- the event is set, and its waiters are served: one effect
abbrev pub sets : EventNo → Rig → Rig
sets event c = counted [] c (wake (cause.Event event) (record c { objects = with_set event c.objects }))

-- a lock that is released goes to the first task that waits for it, or is free
abbrev pub handed_on : Bool → LockNo → Rig → Rig
handed_on true lock c = let g = granted lock c.waiting in record c { waiting = g.waiting; ready = c.ready ++ g.entries }
handed_on false lock c = record c { objects = with_free lock c.objects }

-- the release of a lock that is held: one effect
abbrev pub releases : Bool → TaskNo → LockNo → Rig → After
releases true task lock c = gives_value task value.Absent (counted [] c (handed_on (is_wanted lock c.waiting) lock c))
releases false task lock c = refuses task TriggerException c

-- ---- queues (cocotb 1.8, `cocotb.queue.Queue`)

-- the number of the queue that is made next
abbrev pub new_queue : Rig → QueueNo
new_queue c = record { 0 = length c.queues }

-- the event behind the one that is made next
abbrev pub second_event : Rig → EventNo
second_event c = record { 0 = suc (length c.objects.events) }

-- A new queue is empty, and not full: its first event, that of its items, is unset, and its second, that of its room, is set.
abbrev pub with_new_queue : ℕ → Rig → Rig
with_new_queue bound c = record c {
  objects = with_set (second_event c) (with_event (with_event c.objects));
  queues = c.queues ++ empty_queue bound (new_event c) (second_event c) ∷ [];
}

abbrev pub makes_queue : Bool → TaskNo → ℕ → Rig → After
makes_queue true task bound c = refuses task RuntimeError c
makes_queue false task bound c = gives_value task (value.Queue (new_queue c)) (with_new_queue bound c)

-- where it is so the event is set with its waiters served
abbrev pub sets_if : Bool → EventNo → Rig → Rig
sets_if true event c = sets event c
sets_if false event c = c

-- where it is so the event is cleared
abbrev pub clears_if : Bool → EventNo → Rig → Rig
clears_if true event c = record c { objects = with_unset event c.objects }
clears_if false event c = c

-- The item stands behind the others. The first one sets the event of items, and the one that fills the queue clears that of its room.
abbrev pub with_put : QueueNo → Value → Rig → Rig
with_put queue item c =
    let queues = with_item queue item c.queues in
    let before = queue_at queue c.queues in
    clears_if (has_no_room (queue_at queue queues)) before.space_event (sets_if (is_empty before.items) before.items_event (record c { queues = queues }))

-- a put, or the fault of a queue that is full or of the limit of items
abbrev pub puts_item : Bool → Bool → TaskNo → QueueNo → Value → Rig → After
puts_item true limit task queue item c = refuses task QueueFull c
puts_item false true task queue item c = refuses task RuntimeError c
puts_item false false task queue item c = gives_value task value.Absent (with_put queue item c)

-- These items are left. Of a queue that was full the event of its room is set, and the last item that is taken clears that of items.
abbrev pub with_get : QueueNo → List Value → Rig → Rig
with_get queue items c =
    let before = queue_at queue c.queues in
    clears_if (is_empty items) before.items_event
    (sets_if (has_no_room before) before.space_event (record c { queues = with_items queue items c.queues }))

-- the first of these items is given, or the fault of a queue without one
abbrev pub gets_item : TaskNo → QueueNo → List Value → Rig → After
gets_item task queue [] c = refuses task QueueEmpty c
gets_item task queue (item ∷ items) c = gives_value task item (with_get queue items c)

-- ---- random numbers

-- one of so many numbers from the low one on, by the next word
abbrev pub draws : TaskNo → ℤ → ℕ → Rig → After
draws task low span c = gives_value task (value.Whole (drawn low span (word c.random.state))) (record c { random = next c.random })

-- ---- all of them

-- What each thing that a task wants does, once the turn is taken from the task.
abbrev pub effect : Setup → TaskNo → Turned → Rig → After
effect setup task (turned.Await trig) c = awaits_by task (tree_of trig c.sim.time) (check trig c.sim.time c.sim.region) c
effect setup task (turned.Stage sig act) c = write_by (is_end c.sim.region) sig (stages task sig act c) c
effect setup task (turned.Put sig act) c = write_by (is_end c.sim.region) sig (puts setup task sig act c) c
effect setup task (turned.Start func args give_way) c = starts (is_full c) task (function_at setup.functions func) args give_way c
effect setup task (turned.Kill other) c = kills (other.0 == task.0) task other c
effect setup task turned.NewEvent c = makes_event (nat_le event_limit (length c.objects.events)) task c
effect setup task (turned.SetEvent event) c = gives_value task value.Absent (sets event c)
effect setup task (turned.ClearEvent event) c = gives_value task value.Absent (record c { objects = with_unset event c.objects })
effect setup task turned.NewLock c = makes_lock (nat_le lock_limit (length c.objects.locks)) task c
effect setup task (turned.Release lock) c = releases (is_held lock c.objects) task lock c
effect setup task (turned.NewQueue bound) c = makes_queue (nat_lt event_limit (length c.objects.events + 2)) task bound c
effect setup task (turned.PutNow queue item) c =
    puts_item (has_no_room (queue_at queue c.queues)) (is_at_limit (queue_at queue c.queues)) task queue item c
effect setup task (turned.GetNow queue) c = gets_item task queue (queue_at queue c.queues).items c
effect setup task (turned.Draw low span) c = draws task low span c
effect setup task (turned.Log level text) c = record { rig = goes_on task (Some (given.Value value.Absent)) c; lines = log_line c.sim.time level text ∷ [] }
effect setup task (turned.Done v) c = returns task v c
effect setup task (turned.Raised fault) c = fails (is_joined task c.waiting) task fault c
effect setup task turned.Spent c = quiet c

-- a step that wants nothing has no effect, and the task goes on
abbrev pub effect_of : Setup → TaskNo → Option Turned → Rig → After
effect_of setup task None c = quiet (goes_on task None c)
effect_of setup task (Some wish) c = effect setup task wish c

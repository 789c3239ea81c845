-- What a task wants plans no start, and while none is planned it stays so.
use Rattle.std.proofs.Common.{◌≡◌, Bool, true, false, List, [], ◌∷◌, ◌++◌, Option, None, Some, refl, ◌∙◌}
use Rattle.std.specs.Prelude.{ℕ, ◌+◌, ◌==◌, nat_lt, nat_le, length}
use Rattle.gpi.specs.Keys.{set_of}
use Rattle.gpi.specs.Events.{Event}
use Rattle.gpi.specs.State.{is_end}
use Rattle.gpi.specs.declared.types.Key.{Key}
use Rattle.gpi.specs.declared.types.SigId.{SigId}
use Rattle.gpi.specs.declared.types.Write.{Write}
use Rattle.py_value.specs.declared.trigger.TaskNo.{TaskNo}
use Rattle.py_value.specs.declared.trigger.EventNo.{EventNo}
use Rattle.py_value.specs.declared.trigger.LockNo.{LockNo}
use Rattle.py_value.specs.declared.trigger.QueueNo.{QueueNo}
use Rattle.py_value.specs.declared.value.Value.{Value}
use Rattle.py_value.specs.declared.value.Fault.{Fault}
use Rattle.await_tree.specs.Tree.{Tree}
use Rattle.await_tree.specs.Begin.{begin}
use Rattle.await_tree.specs.Steps.{step_of}
use Rattle.await_tree.specs.Check.{tree_of, check}
use Rattle.await_tree.specs.declared.cause.Cause.TheVariants as cause
use Rattle.await_tree.specs.declared.cause.Step.{Step}
use Rattle.await_tree.specs.declared.cause.Step.TheVariants.{Still, Done}
use Rattle.await_tree.specs.EndedTasks.Endings.{is_done}
use Rattle.await_tree.specs.SyncObjects.States.{is_held, event_limit, lock_limit}
use Rattle.task_queue.specs.Queues.{queue_at, is_full as has_no_room, is_at_limit, is_empty, with_items, with_item}
use Rattle.test_meaning.specs.Body.BodyTrees.{Function}
use Rattle.rig_model.specs.Task.Frame.{function_at}
use Rattle.rig_model.specs.declared.task.task.Turned.{Turned}
use Rattle.rig_model.specs.declared.task.task.Turned.TheVariants as turned
use Rattle.await_tree.specs.WaitList.Waiting.{is_wanted, is_joined}
use Rattle.rig_model.specs.Run.Rig.{Rig, Setup, After, facts_of, awaited}
use Rattle.rig_model.specs.Run.Serve.{wake, serve_keys, with_fired, not_due, after_put, deposit, written}
use Rattle.rig_model.specs.Run.Effect.{begun_by, awaits_by, write_by, stages, puts, starts, starter, next_task, with_new_task, fails, kills_by, kills, makes_event, makes_lock, makes_queue, sets_if, clears_if, with_put, puts_item, with_get, gets_item, releases, is_full, handed_on, effect}

pub serve_keys_planned : (keys others : List Key) (c : Rig) → (serve_keys keys others c).planned ≡ c.planned
serve_keys_planned [] others c = refl
serve_keys_planned (k ∷ ks) others c = serve_keys_planned ks others (record (wake (cause.Key k) c) { fired = others ++ ks })

not_due_none : (keys : List Key) (time : Option ℕ) → time ≡ None → not_due keys time ≡ None
not_due_none keys None h = refl
not_due_none keys (Some t) h = cc

put_planned : (setup : Setup) (e : Event) (c : Rig) → c.planned ≡ None → (after_put setup e c).rig.planned ≡ None
put_planned setup e c h =
    serve_keys_planned e.fired c.fired (with_fired e.fired (record c { sim = e.state })) ∙ not_due_none e.fired c.planned h

deposit_planned : (setup : Setup) (sig : SigId) (act : Write) (c : Rig) → c.planned ≡ None → (deposit setup sig act c).rig.planned ≡ None
deposit_planned setup sig act c h = put_planned setup (written setup c.sim (set_of (awaited c)) sig act) c h

begun_planned : (task : TaskNo) (tree : Tree) (s : Step) (c : Rig) → (begun_by task tree s c).rig.planned ≡ c.planned
begun_planned task tree (Done g) c = refl
begun_planned task tree Still c = refl

awaits_planned : (task : TaskNo) (tree : Tree) (o : Option Fault) (c : Rig) → (awaits_by task tree o c).rig.planned ≡ c.planned
awaits_planned task tree (Some fault) c = refl
awaits_planned task tree None c = begun_planned task (begin tree (facts_of c)).tree (step_of (begin tree (facts_of c)).tree) _

write_planned : (b : Bool) (sig : SigId) (a : After) (c : Rig) → c.planned ≡ None → a.rig.planned ≡ None → (write_by b sig a c).rig.planned ≡ None
write_planned true sig a c n h = n
write_planned false sig a c n h = h

starter_planned : (task number : TaskNo) (b : Bool) (c : Rig) → (starter task number b c).rig.planned ≡ c.planned
starter_planned task number true c = refl
starter_planned task number false c = refl

starts_planned : (full : Bool) (task : TaskNo) (function : Function) (args : List Value) (b : Bool) (c : Rig) → (starts full task function args b c).rig.planned ≡ c.planned
starts_planned true task function args b c = refl
starts_planned false task function args b c = starter_planned task (next_task c) b (with_new_task function args c)

fails_planned : (b : Bool) (task : TaskNo) (fault : Fault) (c : Rig) → (fails b task fault c).rig.planned ≡ c.planned
fails_planned true task fault c = refl
fails_planned false task fault c = refl

kills_by_planned : (b : Bool) (other : TaskNo) (c : Rig) → (kills_by b other c).planned ≡ c.planned
kills_by_planned true other c = refl
kills_by_planned false other c = refl

kills_planned : (b : Bool) (task other : TaskNo) (c : Rig) → (kills b task other c).rig.planned ≡ c.planned
kills_planned true task other c = refl
kills_planned false task other c = kills_by_planned (is_done other c.endings) other c

event_made_planned : (b : Bool) (task : TaskNo) (c : Rig) → (makes_event b task c).rig.planned ≡ c.planned
event_made_planned true task c = refl
event_made_planned false task c = refl

lock_made_planned : (b : Bool) (task : TaskNo) (c : Rig) → (makes_lock b task c).rig.planned ≡ c.planned
lock_made_planned true task c = refl
lock_made_planned false task c = refl

handed_planned : (b : Bool) (l : LockNo) (c : Rig) → (handed_on b l c).planned ≡ c.planned
handed_planned true l c = refl
handed_planned false l c = refl

releases_planned : (b : Bool) (task : TaskNo) (l : LockNo) (c : Rig) → (releases b task l c).rig.planned ≡ c.planned
releases_planned true task l c = handed_planned (is_wanted l c.waiting) l c
releases_planned false task l c = refl

queue_made_planned : (b : Bool) (task : TaskNo) (bound : ℕ) (c : Rig) → (makes_queue b task bound c).rig.planned ≡ c.planned
queue_made_planned true task bound c = refl
queue_made_planned false task bound c = refl

set_planned : (b : Bool) (e : EventNo) (c : Rig) → (sets_if b e c).planned ≡ c.planned
set_planned true e c = refl
set_planned false e c = refl

cleared_planned : (b : Bool) (e : EventNo) (c : Rig) → (clears_if b e c).planned ≡ c.planned
cleared_planned true e c = refl
cleared_planned false e c = refl

item_put_planned : (queue : QueueNo) (item : Value) (c : Rig) → (with_put queue item c).planned ≡ c.planned
item_put_planned queue item c =
    let queues = with_item queue item c.queues in
    let before = queue_at queue c.queues in
    cleared_planned (has_no_room (queue_at queue queues)) before.space_event (sets_if (is_empty before.items) before.items_event (record c { queues = queues }))
    ∙ set_planned (is_empty before.items) before.items_event (record c { queues = queues })

puts_item_planned : (full limit : Bool) (task : TaskNo) (queue : QueueNo) (item : Value) (c : Rig) → (puts_item full limit task queue item c).rig.planned ≡ c.planned
puts_item_planned true limit task queue item c = refl
puts_item_planned false true task queue item c = refl
puts_item_planned false false task queue item c = item_put_planned queue item c

item_got_planned : (queue : QueueNo) (items : List Value) (c : Rig) → (with_get queue items c).planned ≡ c.planned
item_got_planned queue items c =
    let queues = with_items queue items c.queues in
    let before = queue_at queue c.queues in
    cleared_planned (is_empty items) before.items_event (sets_if (has_no_room before) before.space_event (record c { queues = queues }))
    ∙ set_planned (has_no_room before) before.space_event (record c { queues = queues })

gets_item_planned : (task : TaskNo) (queue : QueueNo) (items : List Value) (c : Rig) → (gets_item task queue items c).rig.planned ≡ c.planned
gets_item_planned task queue [] c = refl
gets_item_planned task queue (item ∷ items) c = item_got_planned queue items c

pub effect_planned : (setup : Setup) (task : TaskNo) (t : Turned) (c : Rig) → c.planned ≡ None → (effect setup task t c).rig.planned ≡ None
effect_planned setup task (turned.Await trig) c n = awaits_planned task (tree_of trig c.sim.time) (check trig c.sim.time c.sim.region) c ∙ n
effect_planned setup task (turned.Stage sig act) c n = write_planned (is_end c.sim.region) sig (stages task sig act c) c n n
effect_planned setup task (turned.Put sig act) c n = write_planned (is_end c.sim.region) sig (puts setup task sig act c) c n (deposit_planned setup sig act c n)
effect_planned setup task (turned.Start func args give_way) c n = starts_planned (is_full c) task (function_at setup.functions func) args give_way c ∙ n
effect_planned setup task (turned.Kill other) c n = kills_planned (other.0 == task.0) task other c ∙ n
effect_planned setup task turned.NewEvent c n = event_made_planned (nat_le event_limit (length c.objects.events)) task c ∙ n
effect_planned setup task (turned.SetEvent e) c n = n
effect_planned setup task (turned.ClearEvent e) c n = n
effect_planned setup task turned.NewLock c n = lock_made_planned (nat_le lock_limit (length c.objects.locks)) task c ∙ n
effect_planned setup task (turned.Release l) c n = releases_planned (is_held l c.objects) task l c ∙ n
effect_planned setup task (turned.NewQueue bound) c n = queue_made_planned (nat_lt event_limit (length c.objects.events + 2)) task bound c ∙ n
effect_planned setup task (turned.PutNow queue item) c n =
    puts_item_planned (has_no_room (queue_at queue c.queues)) (is_at_limit (queue_at queue c.queues)) task queue item c ∙ n
effect_planned setup task (turned.GetNow queue) c n = gets_item_planned task queue (queue_at queue c.queues).items c ∙ n
effect_planned setup task (turned.Draw low span) c n = n
effect_planned setup task (turned.Log level text) c n = n
effect_planned setup task (turned.Done v) c n = n
effect_planned setup task (turned.Raised fault) c n = fails_planned (is_joined task c.waiting) task fault c ∙ n
effect_planned setup task turned.Spent c n = n

-- After a step no fired key is left to be served.
use Rattle.std.proofs.Common.{◌≡◌, Bool, true, false, List, [], ◌∷◌, Option, None, Some, refl, ◌∙◌}
use Rattle.std.specs.Prelude.{◌==◌, ◌+◌, ℕ, nat_le, nat_lt, length}
use Rattle.gpi.specs.Keys.{set_of}
use Rattle.gpi.specs.Events.{Event}
use Rattle.gpi.specs.State.{is_end}
use Rattle.gpi.specs.declared.types.Key.{Key}
use Rattle.gpi.specs.declared.types.SigId.{SigId}
use Rattle.gpi.specs.declared.types.Write.{Write}
use Rattle.py_value.specs.declared.trigger.TaskNo.{TaskNo}
use Rattle.py_value.specs.declared.trigger.EventNo.{EventNo}
use Rattle.py_value.specs.declared.trigger.LockNo.{LockNo}
use Rattle.py_value.specs.declared.trigger.QueueNo.{QueueNo}
use Rattle.py_value.specs.declared.value.Value.{Value}
use Rattle.py_value.specs.declared.value.Fault.{Fault}
use Rattle.task_queue.specs.Queues.{TaskQueue, queue_at, is_full as has_no_room, is_at_limit, is_empty, with_items, with_item}
use Rattle.await_tree.specs.Tree.{Tree}
use Rattle.await_tree.specs.Begin.{begin}
use Rattle.await_tree.specs.Steps.{step_of}
use Rattle.await_tree.specs.Check.{tree_of, check}
use Rattle.await_tree.specs.declared.cause.Step.{Step}
use Rattle.await_tree.specs.declared.cause.Step.TheVariants.{Still, Done}
use Rattle.await_tree.specs.EndedTasks.Endings.{is_done}
use Rattle.await_tree.specs.SyncObjects.States.{is_held, event_limit, lock_limit}
use Rattle.test_meaning.specs.Body.BodyTrees.{Function}
use Rattle.rig_model.specs.Task.Frame.{Task, function_at}
use Rattle.rig_model.specs.Task.Step.{next}
use Rattle.rig_model.specs.declared.task.task.Turned.{Turned}
use Rattle.rig_model.specs.declared.task.task.Turned.TheVariants as turned
use Rattle.await_tree.specs.declared.wait_list.ready.Entry.{Entry}
use Rattle.await_tree.specs.WaitList.Waiting.{is_wanted, is_joined}
use Rattle.rig_model.specs.Run.Rig.{Rig, Setup, Running, After, event_of, view_of, facts_of, awaited, procs}
use Rattle.rig_model.specs.Run.Serve.{serve_keys, after_put, written, deposit, ended_if, is_due, serve}
use Rattle.rig_model.specs.Run.Effect.{begun_by, awaits_by, write_by, stages, puts, starts, starter, next_task, with_new_task, fails, kills_by, kills, makes_event, makes_lock, releases, is_full, handed_on, makes_queue, sets_if, clears_if, with_put, puts_item, with_get, gets_item, effect, effect_of}
use Rattle.rig_model.specs.Run.Step.{task_at, taken, stepped, kept, after_event, resumed, chosen, rig_step}

serve_keys_fired : (keys others : List Key) (c : Rig) → (serve_keys keys others c).fired ≡ others
serve_keys_fired [] others c = refl
serve_keys_fired (k ∷ ks) others c = serve_keys_fired ks others _

put_fired : (setup : Setup) (e : Event) (c : Rig) → (after_put setup e c).rig.fired ≡ c.fired
put_fired setup e c = serve_keys_fired e.fired c.fired _

deposit_fired : (setup : Setup) (sig : SigId) (act : Write) (c : Rig) → (deposit setup sig act c).rig.fired ≡ c.fired
deposit_fired setup sig act c = put_fired setup (written setup c.sim (set_of (awaited c)) sig act) c

ended_if_fired : (b : Bool) (c : Rig) → (ended_if b c).rig.fired ≡ c.fired
ended_if_fired true c = refl
ended_if_fired false c = refl

serve_fired : (setup : Setup) (keys : List Key) (c : Rig) → (serve setup keys c).rig.fired ≡ c.fired
serve_fired setup keys c = ended_if_fired (is_due keys c.deadline) _ ∙ serve_keys_fired keys c.fired _

begun_fired : (task : TaskNo) (tree : Tree) (s : Step) (c : Rig) → (begun_by task tree s c).rig.fired ≡ c.fired
begun_fired task tree (Done g) c = refl
begun_fired task tree Still c = refl

awaits_fired : (task : TaskNo) (tree : Tree) (o : Option Fault) (c : Rig) → (awaits_by task tree o c).rig.fired ≡ c.fired
awaits_fired task tree (Some fault) c = refl
awaits_fired task tree None c = begun_fired task (begin tree (facts_of c)).tree (step_of (begin tree (facts_of c)).tree) _

write_fired : (b : Bool) (sig : SigId) (a : After) (c : Rig) → a.rig.fired ≡ c.fired → (write_by b sig a c).rig.fired ≡ c.fired
write_fired true sig a c h = refl
write_fired false sig a c h = h

starter_fired : (task number : TaskNo) (b : Bool) (c : Rig) → (starter task number b c).rig.fired ≡ c.fired
starter_fired task number true c = refl
starter_fired task number false c = refl

starts_fired : (full : Bool) (task : TaskNo) (function : Function) (args : List Value) (b : Bool) (c : Rig) → (starts full task function args b c).rig.fired ≡ c.fired
starts_fired true task function args b c = refl
starts_fired false task function args b c = starter_fired task (next_task c) b (with_new_task function args c)

fails_fired : (b : Bool) (task : TaskNo) (fault : Fault) (c : Rig) → (fails b task fault c).rig.fired ≡ c.fired
fails_fired true task fault c = refl
fails_fired false task fault c = refl

kills_by_fired : (b : Bool) (other : TaskNo) (c : Rig) → (kills_by b other c).fired ≡ c.fired
kills_by_fired true other c = refl
kills_by_fired false other c = refl

kills_fired : (b : Bool) (task other : TaskNo) (c : Rig) → (kills b task other c).rig.fired ≡ c.fired
kills_fired true task other c = refl
kills_fired false task other c = kills_by_fired (is_done other c.endings) other c

event_made_fired : (b : Bool) (task : TaskNo) (c : Rig) → (makes_event b task c).rig.fired ≡ c.fired
event_made_fired true task c = refl
event_made_fired false task c = refl

lock_made_fired : (b : Bool) (task : TaskNo) (c : Rig) → (makes_lock b task c).rig.fired ≡ c.fired
lock_made_fired true task c = refl
lock_made_fired false task c = refl

handed_fired : (b : Bool) (l : LockNo) (c : Rig) → (handed_on b l c).fired ≡ c.fired
handed_fired true l c = refl
handed_fired false l c = refl

releases_fired : (b : Bool) (task : TaskNo) (l : LockNo) (c : Rig) → (releases b task l c).rig.fired ≡ c.fired
releases_fired true task l c = handed_fired (is_wanted l c.waiting) l c
releases_fired false task l c = refl

queue_made_fired : (b : Bool) (task : TaskNo) (bound : ℕ) (c : Rig) → (makes_queue b task bound c).rig.fired ≡ c.fired
queue_made_fired true task bound c = refl
queue_made_fired false task bound c = refl

sets_if_fired : (b : Bool) (e : EventNo) (c : Rig) → (sets_if b e c).fired ≡ c.fired
sets_if_fired true e c = refl
sets_if_fired false e c = refl

clears_if_fired : (b : Bool) (e : EventNo) (c : Rig) → (clears_if b e c).fired ≡ c.fired
clears_if_fired true e c = refl
clears_if_fired false e c = refl

flags_fired : (a b : Bool) (x y : EventNo) (c : Rig) → (clears_if a x (sets_if b y c)).fired ≡ c.fired
flags_fired a b x y c = clears_if_fired a x (sets_if b y c) ∙ sets_if_fired b y c

put_item_fired : (full limit : Bool) (task : TaskNo) (q : QueueNo) (item : Value) (c : Rig) → (puts_item full limit task q item c).rig.fired ≡ c.fired
put_item_fired true limit task q item c = refl
put_item_fired false true task q item c = refl
put_item_fired false false task q item c =
    let old : TaskQueue = queue_at q c.queues in
    flags_fired (has_no_room (queue_at q (with_item q item c.queues))) (is_empty old.items) old.space_event old.items_event (record c { queues = with_item q item c.queues })

get_item_fired : (task : TaskNo) (q : QueueNo) (items : List Value) (c : Rig) → (gets_item task q items c).rig.fired ≡ c.fired
get_item_fired task q [] c = refl
get_item_fired task q (item ∷ items) c =
    let old : TaskQueue = queue_at q c.queues in
    flags_fired (is_empty items) (has_no_room old) old.items_event old.space_event (record c { queues = with_items q items c.queues })

effect_fired : (setup : Setup) (task : TaskNo) (t : Turned) (c : Rig) → (effect setup task t c).rig.fired ≡ c.fired
effect_fired setup task (turned.Await trig) c = awaits_fired task (tree_of trig c.sim.time) (check trig c.sim.time c.sim.region) c
effect_fired setup task (turned.Stage sig act) c = write_fired (is_end c.sim.region) sig (stages task sig act c) c refl
effect_fired setup task (turned.Put sig act) c = write_fired (is_end c.sim.region) sig (puts setup task sig act c) c (deposit_fired setup sig act c)
effect_fired setup task (turned.Start func args give_way) c = starts_fired (is_full c) task (function_at setup.functions func) args give_way c
effect_fired setup task (turned.Kill other) c = kills_fired (other.0 == task.0) task other c
effect_fired setup task turned.NewEvent c = event_made_fired (nat_le event_limit (length c.objects.events)) task c
effect_fired setup task (turned.SetEvent e) c = refl
effect_fired setup task (turned.ClearEvent e) c = refl
effect_fired setup task turned.NewLock c = lock_made_fired (nat_le lock_limit (length c.objects.locks)) task c
effect_fired setup task (turned.Release l) c = releases_fired (is_held l c.objects) task l c
effect_fired setup task (turned.NewQueue bound) c = queue_made_fired (nat_lt event_limit (length c.objects.events + 2)) task bound c
effect_fired setup task (turned.PutNow q item) c = put_item_fired (has_no_room (queue_at q c.queues)) (is_at_limit (queue_at q c.queues)) task q item c
effect_fired setup task (turned.GetNow q) c = get_item_fired task q (queue_at q c.queues).items c
effect_fired setup task (turned.Draw low span) c = refl
effect_fired setup task (turned.Log level text) c = refl
effect_fired setup task (turned.Done v) c = refl
effect_fired setup task (turned.Raised fault) c = fails_fired (is_joined task c.waiting) task fault c
effect_fired setup task turned.Spent c = refl

wish_fired : (setup : Setup) (task : TaskNo) (o : Option Turned) (c : Rig) → (effect_of setup task o c).rig.fired ≡ c.fired
wish_fired setup task None c = refl
wish_fired setup task (Some t) c = effect_fired setup task t c

stepped_fired : (setup : Setup) (r : Running) (o : Option Task) (c : Rig) → (stepped setup r o c).rig.fired ≡ c.fired
stepped_fired setup r None c = refl
stepped_fired setup r (Some task) c =
    wish_fired setup r.task (next setup.functions task r.given (view_of setup c)).turned (kept r.task (next setup.functions task r.given (view_of setup c)).task c)

event_fired : (setup : Setup) (o : Option Event) (c : Rig) → (after_event setup o c).rig.fired ≡ c.fired
event_fired setup None c = refl
event_fired setup (Some e) c = serve_fired setup e.fired (record c { sim = e.state })

chosen_fired : (setup : Setup) (running : Option Running) (ready : List Entry) (c : Rig) → (chosen setup running ready c).rig.fired ≡ c.fired
chosen_fired setup (Some r) ready c = stepped_fired setup r (task_at r.task c.tasks) c
chosen_fired setup None (e ∷ es) c = stepped_fired setup (taken c e) (task_at e.task c.tasks) (resumed e es c)
chosen_fired setup None [] c = event_fired setup (event_of setup c) c

-- the fired keys that aren't served yet are the same after a step: none
pub step_fired : (setup : Setup) (c : Rig) → (rig_step setup c).rig.fired ≡ c.fired
step_fired setup c = chosen_fired setup c.running c.ready c

-- What is served, and what tasks want, keeps all times within the bound.
use Rattle.std.proofs.Common.{◌≡◌, ℕ, ◌≤◌, Bool, true, false, List, [], ◌∷◌, ◌++◌, Option, None, Some, refl, arith}
use Rattle.std.specs.Prelude.{◌==◌, ◌+◌, nat_lt, nat_le, length, IfSome, if◌then◌else◌}
use Rattle.gpi.specs.State.{State, is_end}
use Rattle.gpi.specs.Keys.{among, set_of}
use Rattle.gpi.specs.Events.{Event}
use Rattle.gpi.specs.declared.types.Key.{Key}
use Rattle.gpi.specs.declared.types.Key.TheVariants.{ReadWrite}
use Rattle.gpi.specs.declared.types.SigId.{SigId}
use Rattle.gpi.specs.declared.types.Write.{Write}
use Rattle.py_value.specs.Trigger.{Trig}
use Rattle.py_value.specs.declared.trigger.TaskNo.{TaskNo}
use Rattle.py_value.specs.declared.trigger.EventNo.{EventNo}
use Rattle.py_value.specs.declared.trigger.LockNo.{LockNo}
use Rattle.py_value.specs.declared.trigger.QueueNo.{QueueNo}
use Rattle.py_value.specs.declared.value.Value.{Value}
use Rattle.py_value.specs.declared.value.Fault.{Fault}
use Rattle.await_tree.specs.Tree.{Tree, leaves}
use Rattle.await_tree.specs.Begin.{begin}
use Rattle.await_tree.specs.Steps.{step_of}
use Rattle.await_tree.specs.Check.{last_time, tree_of, check}
use Rattle.await_tree.specs.declared.cause.Cause.{Cause}
use Rattle.await_tree.specs.declared.cause.Cause.TheVariants as cause
use Rattle.await_tree.specs.declared.cause.Step.{Step}
use Rattle.await_tree.specs.declared.cause.Step.TheVariants.{Still, Done}
use Rattle.await_tree.specs.EndedTasks.Endings.{is_done}
use Rattle.await_tree.specs.declared.ended_tasks.ending.Ending.{Ending}
use Rattle.await_tree.specs.declared.ended_tasks.ending.Ending.TheVariants.{Returned, Failed, Killed}
use Rattle.await_tree.specs.SyncObjects.States.{with_set, is_held, event_limit, lock_limit}
use Rattle.run_view.specs.declared.signal_port.staged.Staged.{Staged}
use Rattle.task_queue.specs.Queues.{queue_at, is_full as has_no_room, is_at_limit, is_empty, with_items, with_item}
use Rattle.test_meaning.specs.Body.BodyTrees.{Function}
use Rattle.rig_model.specs.Task.Frame.{function_at}
use Rattle.rig_model.specs.declared.task.task.Turned.{Turned}
use Rattle.rig_model.specs.declared.task.task.Turned.TheVariants as turned
use Rattle.await_tree.specs.WaitList.Waiting.{Waiting, tree_keys, keys_of, is_wanted, is_joined, granted}
use Rattle.rig_model.specs.Run.Rig.{Rig, Setup, After, facts_of, awaited}
use Rattle.rig_model.specs.Run.Serve.{wake, serve_keys, is_due, not_due, with_fired, after_put, deposit, flushed, flushed_if, served, ended_if, serve, written}
use Rattle.rig_model.specs.Run.Effect.{begun_by, awaits_by, write_by, stages, puts, starts, starter, next_task, with_new_task, with_end, withdrawn, fails, kills_by, kills, makes_event, makes_lock, makes_queue, sets_if, clears_if, with_put, puts_item, with_get, gets_item, releases, is_full, handed_on, effect, effect_of}
use Rattle.scheduler.specs.Timely.{AreTimely, IsEarly, IsTimely}
use Rattle.scheduler.proofs.Keys.{allowed_timely}
use Rattle.scheduler.proofs.TimeWaits.{waits_more, one_waits, waits_without, still_waits, granted_waits, begun_timely}
use Rattle.scheduler.proofs.Events.{kept_early, written_time}

module _ (bound : ℕ) where
  abbrev Timely : Rig → Type 0
  Timely c = IsTimely bound c

  -- with other tasks that wait
  with_waiting : (ws : List Waiting) (c : Rig) → AreTimely last_time (keys_of ws) → Timely c → Timely (record c { waiting = ws })
  with_waiting ws c k h = record { time = h.time; updates = h.updates; leaves = k; deadline = h.deadline; planned = h.planned }

  -- in another state of the simulator
  pub at_state : (s : State) (c : Rig) → IsEarly bound s → Timely c → Timely (record c { sim = s })
  at_state s c k h = record { time = k.time; updates = k.updates; leaves = h.leaves; deadline = h.deadline; planned = h.planned }

  -- ---- serving

  wake_timely : (on : Cause) (c : Rig) → Timely c → Timely (wake on c)
  wake_timely on c h = with_waiting _ c (still_waits last_time on c.waiting h.leaves) h

  serve_keys_timely : (keys others : List Key) (c : Rig) → Timely c → Timely (serve_keys keys others c)
  serve_keys_timely [] others c h = h
  serve_keys_timely (k ∷ ks) others c h = serve_keys_timely ks others (record (wake (cause.Key k) c) { fired = others ++ ks }) (wake_timely (cause.Key k) c h)

  dropped : (b : Bool) (o : Option ℕ) (latest : ℕ) → IfSome o (λ (due : ℕ). due ≤ latest) → IfSome (if b then None else o) (λ (due : ℕ). due ≤ latest)
  dropped true o latest h = tt
  dropped false o latest h = h

  not_due_within : (keys : List Key) (o : Option ℕ) (latest : ℕ) → IfSome o (λ (due : ℕ). due ≤ latest) → IfSome (not_due keys o) (λ (due : ℕ). due ≤ latest)
  not_due_within keys o latest h = dropped (is_due keys o) o latest h

  fired_timely : (keys : List Key) (c : Rig) → Timely c → Timely (with_fired keys c)
  fired_timely keys c h = record {
    time = h.time;
    updates = h.updates;
    leaves = h.leaves;
    deadline = not_due_within keys c.deadline last_time h.deadline;
    planned = not_due_within keys c.planned bound h.planned;
  }

  put_timely : (setup : Setup) (e : Event) (c : Rig) → IsEarly bound e.state → Timely c → Timely (after_put setup e c).rig
  put_timely setup e c k h =
      let d : Rig = record c { sim = e.state } in serve_keys_timely e.fired c.fired (with_fired e.fired d) (fired_timely e.fired d (at_state e.state c k h))

  pub deposit_timely : (setup : Setup) (sig : SigId) (act : Write) (c : Rig) → Timely c → Timely (deposit setup sig act c).rig
  deposit_timely setup sig act c h =
      let e : Event = written setup c.sim (set_of (awaited c)) sig act in
      put_timely setup e c
      (kept_early bound c.sim e.state (written_time setup c.sim (set_of (awaited c)) sig act) (record { time = h.time; updates = h.updates })) h

  flushed_timely : (setup : Setup) (writes : List Staged) (c : Rig) → Timely c → Timely (flushed setup writes c).rig
  flushed_timely setup [] c h = h
  flushed_timely setup (w ∷ ws) c h =
      flushed_timely setup ws (deposit setup w.sig w.act (record c { staged = ws })).rig (deposit_timely setup w.sig w.act (record c { staged = ws }) h)

  flush_timely : (setup : Setup) (b : Bool) (c : Rig) → Timely c → Timely (flushed_if setup b c).rig
  flush_timely setup true c h = flushed_timely setup c.staged c h
  flush_timely setup false c h = h

  ended_if_timely : (b : Bool) (c : Rig) → Timely c → Timely (ended_if b c).rig
  ended_if_timely true c h = h
  ended_if_timely false c h = h

  pub serve_timely : (setup : Setup) (keys : List Key) (c : Rig) → Timely c → Timely (serve setup keys c).rig
  serve_timely setup keys c h =
      let d : Rig = (flushed_if setup (among ReadWrite keys) (with_fired keys c)).rig in
      ended_if_timely (is_due keys c.deadline) (served keys c.fired d).rig
      (serve_keys_timely keys c.fired d (flush_timely setup (among ReadWrite keys) (with_fired keys c) (fired_timely keys c h)))

  -- ---- effects

  begun_timely_by : (task : TaskNo) (tree : Tree) (s : Step) (c : Rig) → AreTimely last_time (tree_keys tree) → Timely c → Timely (begun_by task tree s c).rig
  begun_timely_by task tree (Done g) c k h = h
  begun_timely_by task tree Still c k h =
      with_waiting (c.waiting ++ record { task = task; tree = tree } ∷ []) c
      (waits_more last_time c.waiting (record { task = task; tree = tree } ∷ []) h.leaves (one_waits last_time task tree k)) h

  awaits_timely : (task : TaskNo) (trig : Trig) (o : Option Fault) (c : Rig) → check trig c.sim.time c.sim.region ≡ o → Timely c
      → Timely (awaits_by task (tree_of trig c.sim.time) o c).rig
  awaits_timely task trig (Some fault) c e h = h
  awaits_timely task trig None c e h =
      let t : Tree = tree_of trig c.sim.time in
      let b = begin t (facts_of c) in
      begun_timely_by task b.tree (step_of b.tree) (record c { objects = record c.objects { locks = b.facts.locks } })
      (begun_timely last_time t (facts_of c) (allowed_timely (leaves t) c.sim.region e)) h

  write_timely : (b : Bool) (sig : SigId) (a : After) (c : Rig) → Timely c → Timely a.rig → Timely (write_by b sig a c).rig
  write_timely true sig a c h k = h
  write_timely false sig a c h k = k

  starter_timely : (task number : TaskNo) (b : Bool) (c : Rig) → Timely c → Timely (starter task number b c).rig
  starter_timely task number true c h = h
  starter_timely task number false c h = h

  starts_timely : (full : Bool) (task : TaskNo) (function : Function) (args : List Value) (b : Bool) (c : Rig) → Timely c
      → Timely (starts full task function args b c).rig
  starts_timely true task function args b c h = h
  starts_timely false task function args b c h = starter_timely task (next_task c) b (with_new_task function args c) h

  end_timely : (task : TaskNo) (ending : Ending) (failed : Bool) (c : Rig) → Timely c → Timely (wake (cause.Ended task failed) (with_end task ending c))
  end_timely task ending failed c h = wake_timely (cause.Ended task failed) (with_end task ending c) h

  fails_timely : (b : Bool) (task : TaskNo) (fault : Fault) (c : Rig) → Timely c → Timely (fails b task fault c).rig
  fails_timely true task fault c h = end_timely task (Failed fault) true c h
  fails_timely false task fault c h = h

  kill_timely : (b : Bool) (other : TaskNo) (c : Rig) → Timely c → Timely (kills_by b other c)
  kill_timely true other c h = h
  kill_timely false other c h =
      end_timely other Killed false (withdrawn other c) (with_waiting _ c (waits_without last_time other c.waiting h.leaves) h)

  kills_timely : (b : Bool) (task other : TaskNo) (c : Rig) → Timely c → Timely (kills b task other c).rig
  kills_timely true task other c h = h
  kills_timely false task other c h = kill_timely (is_done other c.endings) other c h

  event_timely : (b : Bool) (task : TaskNo) (c : Rig) → Timely c → Timely (makes_event b task c).rig
  event_timely true task c h = h
  event_timely false task c h = h

  lock_timely : (b : Bool) (task : TaskNo) (c : Rig) → Timely c → Timely (makes_lock b task c).rig
  lock_timely true task c h = h
  lock_timely false task c h = h

  queue_timely : (b : Bool) (task : TaskNo) (n : ℕ) (c : Rig) → Timely c → Timely (makes_queue b task n c).rig
  queue_timely true task n c h = h
  queue_timely false task n c h = h

  set_timely : (b : Bool) (e : EventNo) (c : Rig) → Timely c → Timely (sets_if b e c)
  set_timely true e c h = wake_timely (cause.Event e) (record c { objects = with_set e c.objects }) h
  set_timely false e c h = h

  cleared_timely : (b : Bool) (e : EventNo) (c : Rig) → Timely c → Timely (clears_if b e c)
  cleared_timely true e c h = h
  cleared_timely false e c h = h

  item_put_timely : (queue : QueueNo) (item : Value) (c : Rig) → Timely c → Timely (with_put queue item c)
  item_put_timely queue item c h =
      let queues = with_item queue item c.queues in
      let before = queue_at queue c.queues in
      cleared_timely (has_no_room (queue_at queue queues)) before.space_event (sets_if (is_empty before.items) before.items_event (record c { queues = queues }))
      (set_timely (is_empty before.items) before.items_event (record c { queues = queues }) h)

  puts_item_timely : (full limit : Bool) (task : TaskNo) (queue : QueueNo) (item : Value) (c : Rig) → Timely c → Timely (puts_item full limit task queue item c).rig
  puts_item_timely true limit task queue item c h = h
  puts_item_timely false true task queue item c h = h
  puts_item_timely false false task queue item c h = item_put_timely queue item c h

  item_got_timely : (queue : QueueNo) (items : List Value) (c : Rig) → Timely c → Timely (with_get queue items c)
  item_got_timely queue items c h =
      let queues = with_items queue items c.queues in
      let before = queue_at queue c.queues in
      cleared_timely (is_empty items) before.items_event (sets_if (has_no_room before) before.space_event (record c { queues = queues }))
      (set_timely (has_no_room before) before.space_event (record c { queues = queues }) h)

  gets_item_timely : (task : TaskNo) (queue : QueueNo) (items : List Value) (c : Rig) → Timely c → Timely (gets_item task queue items c).rig
  gets_item_timely task queue [] c h = h
  gets_item_timely task queue (item ∷ items) c h = item_got_timely queue items c h

  handed_timely : (b : Bool) (l : LockNo) (c : Rig) → Timely c → Timely (handed_on b l c)
  handed_timely true l c h = with_waiting (granted l c.waiting).waiting c (granted_waits last_time l c.waiting h.leaves) h
  handed_timely false l c h = h

  release_timely : (b : Bool) (task : TaskNo) (l : LockNo) (c : Rig) → Timely c → Timely (releases b task l c).rig
  release_timely true task l c h = handed_timely (is_wanted l c.waiting) l c h
  release_timely false task l c h = h

  pub effect_timely : (setup : Setup) (task : TaskNo) (t : Turned) (c : Rig) → Timely c → Timely (effect setup task t c).rig
  effect_timely setup task (turned.Await trig) c h = awaits_timely task trig (check trig c.sim.time c.sim.region) c refl h
  effect_timely setup task (turned.Stage sig act) c h = write_timely (is_end c.sim.region) sig (stages task sig act c) c h h
  effect_timely setup task (turned.Put sig act) c h = write_timely (is_end c.sim.region) sig (puts setup task sig act c) c h (deposit_timely setup sig act c h)
  effect_timely setup task (turned.Start func args give_way) c h = starts_timely (is_full c) task (function_at setup.functions func) args give_way c h
  effect_timely setup task (turned.Kill other) c h = kills_timely (other.0 == task.0) task other c h
  effect_timely setup task turned.NewEvent c h = event_timely (nat_le event_limit (length c.objects.events)) task c h
  effect_timely setup task (turned.SetEvent e) c h = wake_timely (cause.Event e) (record c { objects = with_set e c.objects }) h
  effect_timely setup task (turned.ClearEvent e) c h = h
  effect_timely setup task turned.NewLock c h = lock_timely (nat_le lock_limit (length c.objects.locks)) task c h
  effect_timely setup task (turned.Release l) c h = release_timely (is_held l c.objects) task l c h
  effect_timely setup task (turned.NewQueue n) c h = queue_timely (nat_lt event_limit (length c.objects.events + 2)) task n c h
  effect_timely setup task (turned.PutNow queue item) c h =
      puts_item_timely (has_no_room (queue_at queue c.queues)) (is_at_limit (queue_at queue c.queues)) task queue item c h
  effect_timely setup task (turned.GetNow queue) c h = gets_item_timely task queue (queue_at queue c.queues).items c h
  effect_timely setup task (turned.Draw low span) c h = h
  effect_timely setup task (turned.Log level text) c h = h
  effect_timely setup task (turned.Done v) c h = end_timely task (Returned v) false c h
  effect_timely setup task (turned.Raised fault) c h = fails_timely (is_joined task c.waiting) task fault c h
  effect_timely setup task turned.Spent c h = h

  pub wish_timely : (setup : Setup) (task : TaskNo) (o : Option Turned) (c : Rig) → Timely c → Timely (effect_of setup task o c).rig
  wish_timely setup task None c h = h
  wish_timely setup task (Some t) c h = effect_timely setup task t c h

pub effects_timely : (setup : Setup) (bound : ℕ) (task : TaskNo) (t : Turned) (c : Rig) → IsTimely bound c → IsTimely bound (effect setup task t c).rig
effects_timely setup bound task t c h = effect_timely bound setup task t c h

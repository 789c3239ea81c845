-- What is served, and what tasks want, is written at the time that it is, and leaves nothing to come before it.
use Rattle.std.proofs.Common.{◌≡◌, ℕ, ◌≤◌, Bool, true, false, List, [], ◌∷◌, ◌++◌, Option, None, Some, refl, subst, sym}
use Rattle.std.specs.Prelude.{◌==◌, ◌+◌, nat_lt, nat_le, length, IfSome, if◌then◌else◌}
use Rattle.std.specs.List.{AllByRecursion}
use Rattle.gpi.specs.State.{State, delayed_times, is_end}
use Rattle.gpi.specs.Keys.{among, set_of}
use Rattle.gpi.specs.Events.{Event}
use Rattle.gpi.specs.declared.types.Key.{Key}
use Rattle.gpi.specs.declared.types.Key.TheVariants.{ReadWrite}
use Rattle.gpi.specs.declared.types.SigId.{SigId}
use Rattle.gpi.specs.declared.types.Told.{Told}
use Rattle.gpi.specs.declared.types.Write.{Write}
use Rattle.py_value.specs.Trigger.{Trig}
use Rattle.py_value.specs.declared.trigger.TaskNo.{TaskNo}
use Rattle.py_value.specs.declared.trigger.EventNo.{EventNo}
use Rattle.py_value.specs.declared.trigger.LockNo.{LockNo}
use Rattle.py_value.specs.declared.trigger.QueueNo.{QueueNo}
use Rattle.py_syntax.specs.declared.statement.LogLevel.{LogLevel}
use Rattle.py_value.specs.declared.value.Value.{Value}
use Rattle.py_value.specs.declared.value.Value.TheVariants as value
use Rattle.rig_model.specs.Run.Line.{log_line}
use Rattle.py_value.specs.declared.value.Fault.{Fault}
use Rattle.await_tree.specs.Tree.{Tree}
use Rattle.await_tree.specs.Begin.{begin}
use Rattle.await_tree.specs.Steps.{step_of}
use Rattle.await_tree.specs.Check.{tree_of, check}
use Rattle.await_tree.specs.declared.cause.Cause.{Cause}
use Rattle.await_tree.specs.declared.cause.Cause.TheVariants as cause
use Rattle.await_tree.specs.declared.cause.Step.{Step}
use Rattle.await_tree.specs.declared.cause.Step.TheVariants.{Still, Done}
use Rattle.await_tree.specs.EndedTasks.Endings.{is_done}
use Rattle.await_tree.specs.declared.ended_tasks.ending.Ending.{Ending}
use Rattle.await_tree.specs.declared.ended_tasks.ending.Ending.TheVariants.{Returned, Failed, Killed}
use Rattle.await_tree.specs.SyncObjects.States.{with_set, is_held, event_limit, lock_limit}
use Rattle.run_view.specs.declared.signal_port.staged.Staged.{Staged}
use Rattle.task_queue.specs.Queues.{queue_at, is_full as has_no_room, is_at_limit, is_empty, with_items, with_item}
use Rattle.test_meaning.specs.Body.BodyTrees.{Function}
use Rattle.rig_model.specs.Task.Frame.{function_at}
use Rattle.rig_model.specs.declared.task.task.Turned.{Turned}
use Rattle.rig_model.specs.declared.task.task.Turned.TheVariants as turned
use Rattle.await_tree.specs.WaitList.Waiting.{Waiting, tree_keys, keys_of, is_wanted, is_joined, granted}
use Rattle.rig_model.specs.Run.Rig.{Rig, Setup, After, facts_of, awaited, quiet, followed_by, told_line, told_lines}
use Rattle.rig_model.specs.Run.Serve.{wake, serve_keys, is_due, not_due, with_fired, after_put, deposit, flushed, flushed_if, served, ended_if, serve, written}
use Rattle.rig_model.specs.Run.Effect.{gives_value, begun_by, awaits_by, write_by, stages, puts, starts, starter, next_task, with_new_task, with_end, withdrawn, fails, kills_by, kills, makes_event, makes_lock, makes_queue, sets_if, clears_if, with_put, puts_item, with_get, gets_item, releases, is_full, handed_on, effect, effect_of}
use Rattle.scheduler.proofs.Events.{written_time}
use Rattle.run_laws.specs.Waves.Times.{IsLineAt}
use Rattle.run_laws.proofs.WavesLemmas.Times.{AllFrom, AreSince, tree_since}
use Rattle.run_laws.proofs.WavesLemmas.Waits.{waits_more, one_waits, waits_without, still_waits, granted_waits, begun_since}
use Rattle.run_laws.proofs.WavesLemmas.Events.{IsNow, kept_now}

-- It is this time. The updates that wait for a time, the times that tasks wait for, the deadline and a planned start aren't before it.
pub record AreNow (now : ℕ) (sim : State) (waiting : List Waiting) (given_up start : Option ℕ) : Type 0 where
  pub time : sim.time ≡ now
  pub updates : AllFrom now (delayed_times sim.delayed)
  pub leaves : AreSince now (keys_of waiting)
  pub deadline : IfSome given_up (λ (due : ℕ). now ≤ due)
  pub planned : IfSome start (λ (due : ℕ). now ≤ due)

-- so it is of a configuration
abbrev pub IsTimed : ℕ → Rig → Type 0
IsTimed now c = AreNow now c.sim c.waiting c.deadline c.planned

-- each of these lines begins with this time
abbrev pub AreAt : ℕ → List (List ℕ) → Type 0
AreAt now lines = AllByRecursion (IsLineAt now) lines

-- what was written was written at this time, and it still is this time
pub record Goes (now : ℕ) (a : After) : Type 0 where
  pub times : IsTimed now a.rig
  pub lines : AreAt now a.lines

pub at_both : (now : ℕ) (xs ys : List (List ℕ)) → AreAt now xs → AreAt now ys → AreAt now (xs ++ ys)
at_both now [] ys h k = k
at_both now (x ∷ xs) ys (h, more) k = (h, at_both now xs ys more k)

pub told_at : (setup : Setup) (now : ℕ) (o : Option Told) → AreAt now (told_lines setup now o)
told_at setup now None = tt
told_at setup now (Some told) = decided setup.trace
  where
    decided : (b : Bool) → AreAt now (told_line setup b now told)
    decided true = ((_, refl), tt)
    decided false = tt

module _ (now : ℕ) where
  abbrev Timed : Rig → Type 0
  Timed c = IsTimed now c

  abbrev pub quietly : (c : Rig) → Timed c → Goes now (quiet c)
  quietly c h = record { times = h; lines = tt }

  -- with other tasks that wait
  with_waiting : (ws : List Waiting) (c : Rig) → AreSince now (keys_of ws) → Timed c → Timed (record c { waiting = ws })
  with_waiting ws c k h = record { time = h.time; updates = h.updates; leaves = k; deadline = h.deadline; planned = h.planned }

  -- in another state of the simulator
  at_state : (s : State) (c : Rig) → IsNow now s → Timed c → Timed (record c { sim = s })
  at_state s c k h = record { time = k.time; updates = k.updates; leaves = h.leaves; deadline = h.deadline; planned = h.planned }

  then_goes : (a : After) (f : Rig → After) → Goes now a → ((c : Rig) → Timed c → Goes now (f c)) → Goes now (followed_by a f)
  then_goes a f h k = let g = k a.rig h.times in record { times = g.times; lines = at_both now a.lines (f a.rig).lines h.lines g.lines }

  -- ---- serving

  wake_timed : (on : Cause) (c : Rig) → Timed c → Timed (wake on c)
  wake_timed on c h = with_waiting _ c (still_waits now on c.waiting h.leaves) h

  serve_keys_timed : (keys others : List Key) (c : Rig) → Timed c → Timed (serve_keys keys others c)
  serve_keys_timed [] others c h = h
  serve_keys_timed (k ∷ ks) others c h = serve_keys_timed ks others (record (wake (cause.Key k) c) { fired = others ++ ks }) (wake_timed (cause.Key k) c h)

  dropped : (b : Bool) (o : Option ℕ) → IfSome o (λ (due : ℕ). now ≤ due) → IfSome (if b then None else o) (λ (due : ℕ). now ≤ due)
  dropped true o h = tt
  dropped false o h = h

  not_due_since : (keys : List Key) (o : Option ℕ) → IfSome o (λ (due : ℕ). now ≤ due) → IfSome (not_due keys o) (λ (due : ℕ). now ≤ due)
  not_due_since keys o h = dropped (is_due keys o) o h

  fired_timed : (keys : List Key) (c : Rig) → Timed c → Timed (with_fired keys c)
  fired_timed keys c h = record {
    time = h.time;
    updates = h.updates;
    leaves = h.leaves;
    deadline = not_due_since keys c.deadline h.deadline;
    planned = not_due_since keys c.planned h.planned;
  }

  put_goes : (setup : Setup) (e : Event) (c : Rig) → IsNow now e.state → Timed c → Goes now (after_put setup e c)
  put_goes setup e c k h =
      let d : Rig = record c { sim = e.state } in record {
        times = serve_keys_timed e.fired c.fired (with_fired e.fired d) (fired_timed e.fired d (at_state e.state c k h));
        lines = subst (λ (n : ℕ). AreAt now (told_lines setup n e.told)) (sym h.time) (told_at setup now e.told);
      }

  deposit_goes : (setup : Setup) (sig : SigId) (act : Write) (c : Rig) → Timed c → Goes now (deposit setup sig act c)
  deposit_goes setup sig act c h =
      let e : Event = written setup c.sim (set_of (awaited c)) sig act in
      put_goes setup e c (kept_now now c.sim e.state (written_time setup c.sim (set_of (awaited c)) sig act) (record { time = h.time; updates = h.updates })) h

  flushed_goes : (setup : Setup) (writes : List Staged) (c : Rig) → Timed c → Goes now (flushed setup writes c)
  flushed_goes setup [] c h = quietly c h
  flushed_goes setup (w ∷ ws) c h =
      then_goes (deposit setup w.sig w.act (record c { staged = ws })) (flushed setup ws) (deposit_goes setup w.sig w.act (record c { staged = ws }) h)
      (λ d k. flushed_goes setup ws d k)

  flush_goes : (setup : Setup) (b : Bool) (c : Rig) → Timed c → Goes now (flushed_if setup b c)
  flush_goes setup true c h = flushed_goes setup c.staged c h
  flush_goes setup false c h = quietly c h

  ended_goes : (b : Bool) (c : Rig) → Timed c → Goes now (ended_if b c)
  ended_goes true c h = quietly (ended_if true c).rig h
  ended_goes false c h = quietly c h

  pub serve_goes : (setup : Setup) (keys : List Key) (c : Rig) → Timed c → Goes now (serve setup keys c)
  serve_goes setup keys c h =
      let a : After = flushed_if setup (among ReadWrite keys) (with_fired keys c) in
      let flush : Goes now a = flush_goes setup (among ReadWrite keys) (with_fired keys c) (fired_timed keys c h) in
      then_goes (followed_by a (served keys c.fired)) (ended_if (is_due keys c.deadline))
      (then_goes a (served keys c.fired) flush (λ d k. record { times = serve_keys_timed keys c.fired d k; lines = tt }))
      (ended_goes (is_due keys c.deadline))

  -- ---- effects

  begun_goes : (task : TaskNo) (tree : Tree) (s : Step) (c : Rig) → AreSince now (tree_keys tree) → Timed c → Goes now (begun_by task tree s c)
  begun_goes task tree (Done g) c k h = record { times = h; lines = tt }
  begun_goes task tree Still c k h = record {
    times = with_waiting (c.waiting ++ record { task = task; tree = tree } ∷ []) c
        (waits_more now c.waiting (record { task = task; tree = tree } ∷ []) h.leaves (one_waits now task tree k)) h;
    lines = tt;
  }

  awaits_goes : (task : TaskNo) (trig : Trig) (o : Option Fault) (c : Rig) → Timed c → Goes now (awaits_by task (tree_of trig c.sim.time) o c)
  awaits_goes task trig (Some fault) c h = record { times = h; lines = tt }
  awaits_goes task trig None c h =
      let t : Tree = tree_of trig c.sim.time in
      let b = begin t (facts_of c) in
      begun_goes task b.tree (step_of b.tree) (record c { objects = record c.objects { locks = b.facts.locks } })
      (begun_since now t (facts_of c) (subst (λ (n : ℕ). AreSince now (tree_keys (tree_of trig n))) (sym h.time) (tree_since now trig))) h

  write_goes : (b : Bool) (sig : SigId) (a : After) (c : Rig) → Timed c → Goes now a → Goes now (write_by b sig a c)
  write_goes true sig a c h k = record { times = h; lines = tt }
  write_goes false sig a c h k = k

  starter_goes : (task number : TaskNo) (b : Bool) (c : Rig) → Timed c → Goes now (starter task number b c)
  starter_goes task number true c h = record { times = h; lines = tt }
  starter_goes task number false c h = record { times = h; lines = tt }

  starts_goes : (full : Bool) (task : TaskNo) (function : Function) (args : List Value) (b : Bool) (c : Rig) → Timed c
      → Goes now (starts full task function args b c)
  starts_goes true task function args b c h = record { times = h; lines = tt }
  starts_goes false task function args b c h = starter_goes task (next_task c) b (with_new_task function args c) h

  end_timed : (task : TaskNo) (ending : Ending) (failed : Bool) (c : Rig) → Timed c → Timed (wake (cause.Ended task failed) (with_end task ending c))
  end_timed task ending failed c h = wake_timed (cause.Ended task failed) (with_end task ending c) h

  fails_goes : (b : Bool) (task : TaskNo) (fault : Fault) (c : Rig) → Timed c → Goes now (fails b task fault c)
  fails_goes true task fault c h = record { times = end_timed task (Failed fault) true c h; lines = tt }
  fails_goes false task fault c h = record { times = h; lines = tt }

  kill_timed : (b : Bool) (other : TaskNo) (c : Rig) → Timed c → Timed (kills_by b other c)
  kill_timed true other c h = h
  kill_timed false other c h =
      end_timed other Killed false (withdrawn other c) (with_waiting _ c (waits_without now other c.waiting h.leaves) h)

  kills_goes : (b : Bool) (task other : TaskNo) (c : Rig) → Timed c → Goes now (kills b task other c)
  kills_goes true task other c h = record { times = h; lines = tt }
  kills_goes false task other c h = record { times = kill_timed (is_done other c.endings) other c h; lines = tt }

  event_goes : (b : Bool) (task : TaskNo) (c : Rig) → Timed c → Goes now (makes_event b task c)
  event_goes true task c h = record { times = h; lines = tt }
  event_goes false task c h = record { times = h; lines = tt }

  lock_goes : (b : Bool) (task : TaskNo) (c : Rig) → Timed c → Goes now (makes_lock b task c)
  lock_goes true task c h = record { times = h; lines = tt }
  lock_goes false task c h = record { times = h; lines = tt }

  queue_goes : (b : Bool) (task : TaskNo) (n : ℕ) (c : Rig) → Timed c → Goes now (makes_queue b task n c)
  queue_goes true task n c h = record { times = h; lines = tt }
  queue_goes false task n c h = record { times = h; lines = tt }

  set_timed : (b : Bool) (e : EventNo) (c : Rig) → Timed c → Timed (sets_if b e c)
  set_timed true e c h = wake_timed (cause.Event e) (record c { objects = with_set e c.objects }) h
  set_timed false e c h = h

  cleared_timed : (b : Bool) (e : EventNo) (c : Rig) → Timed c → Timed (clears_if b e c)
  cleared_timed true e c h = h
  cleared_timed false e c h = h

  item_put_timed : (queue : QueueNo) (item : Value) (c : Rig) → Timed c → Timed (with_put queue item c)
  item_put_timed queue item c h =
      let queues = with_item queue item c.queues in
      let before = queue_at queue c.queues in
      cleared_timed (has_no_room (queue_at queue queues)) before.space_event (sets_if (is_empty before.items) before.items_event (record c { queues = queues }))
      (set_timed (is_empty before.items) before.items_event (record c { queues = queues }) h)

  puts_item_goes : (full limit : Bool) (task : TaskNo) (queue : QueueNo) (item : Value) (c : Rig) → Timed c → Goes now (puts_item full limit task queue item c)
  puts_item_goes true limit task queue item c h = record { times = h; lines = tt }
  puts_item_goes false true task queue item c h = record { times = h; lines = tt }
  puts_item_goes false false task queue item c h = record { times = item_put_timed queue item c h; lines = tt }

  item_got_timed : (queue : QueueNo) (items : List Value) (c : Rig) → Timed c → Timed (with_get queue items c)
  item_got_timed queue items c h =
      let queues = with_items queue items c.queues in
      let before = queue_at queue c.queues in
      cleared_timed (is_empty items) before.items_event (sets_if (has_no_room before) before.space_event (record c { queues = queues }))
      (set_timed (has_no_room before) before.space_event (record c { queues = queues }) h)

  gets_item_goes : (task : TaskNo) (queue : QueueNo) (items : List Value) (c : Rig) → Timed c → Goes now (gets_item task queue items c)
  gets_item_goes task queue [] c h = record { times = h; lines = tt }
  gets_item_goes task queue (item ∷ items) c h = record { times = item_got_timed queue items c h; lines = tt }

  handed_timed : (b : Bool) (l : LockNo) (c : Rig) → Timed c → Timed (handed_on b l c)
  handed_timed true l c h = with_waiting (granted l c.waiting).waiting c (granted_waits now l c.waiting h.leaves) h
  handed_timed false l c h = h

  release_goes : (b : Bool) (task : TaskNo) (l : LockNo) (c : Rig) → Timed c → Goes now (releases b task l c)
  release_goes true task l c h = record { times = handed_timed (is_wanted l c.waiting) l c h; lines = tt }
  release_goes false task l c h = record { times = h; lines = tt }

  puts_goes : (setup : Setup) (task : TaskNo) (sig : SigId) (act : Write) (c : Rig) → Timed c → Goes now (puts setup task sig act c)
  puts_goes setup task sig act c h = then_goes (deposit setup sig act c) (gives_value task value.Absent) (deposit_goes setup sig act c h) (λ d k. record { times = k; lines = tt })

  log_at : (c : Rig) (level : LogLevel) (text : List ℕ) → Timed c → AreAt now (log_line c.sim.time level text ∷ [])
  log_at c level text h = subst (λ (n : ℕ). AreAt now (log_line n level text ∷ [])) (sym h.time) ((_, refl), tt)

  effect_goes : (setup : Setup) (task : TaskNo) (t : Turned) (c : Rig) → Timed c → Goes now (effect setup task t c)
  effect_goes setup task (turned.Await trig) c h = awaits_goes task trig (check trig c.sim.time c.sim.region) c h
  effect_goes setup task (turned.Stage sig act) c h = write_goes (is_end c.sim.region) sig (stages task sig act c) c h (record { times = h; lines = tt })
  effect_goes setup task (turned.Put sig act) c h = write_goes (is_end c.sim.region) sig (puts setup task sig act c) c h (puts_goes setup task sig act c h)
  effect_goes setup task (turned.Start func args give_way) c h = starts_goes (is_full c) task (function_at setup.functions func) args give_way c h
  effect_goes setup task (turned.Kill other) c h = kills_goes (other.0 == task.0) task other c h
  effect_goes setup task turned.NewEvent c h = event_goes (nat_le event_limit (length c.objects.events)) task c h
  effect_goes setup task (turned.SetEvent e) c h =
      record { times = wake_timed (cause.Event e) (record c { objects = with_set e c.objects }) h; lines = tt }
  effect_goes setup task (turned.ClearEvent e) c h = record { times = h; lines = tt }
  effect_goes setup task turned.NewLock c h = lock_goes (nat_le lock_limit (length c.objects.locks)) task c h
  effect_goes setup task (turned.Release l) c h = release_goes (is_held l c.objects) task l c h
  effect_goes setup task (turned.NewQueue n) c h = queue_goes (nat_lt event_limit (length c.objects.events + 2)) task n c h
  effect_goes setup task (turned.PutNow queue item) c h =
      puts_item_goes (has_no_room (queue_at queue c.queues)) (is_at_limit (queue_at queue c.queues)) task queue item c h
  effect_goes setup task (turned.GetNow queue) c h = gets_item_goes task queue (queue_at queue c.queues).items c h
  effect_goes setup task (turned.Draw low span) c h = record { times = h; lines = tt }
  effect_goes setup task (turned.Log level text) c h = record { times = h; lines = log_at c level text h }
  effect_goes setup task (turned.Done v) c h = record { times = end_timed task (Returned v) false c h; lines = tt }
  effect_goes setup task (turned.Raised fault) c h = fails_goes (is_joined task c.waiting) task fault c h
  effect_goes setup task turned.Spent c h = quietly c h

  pub wish_goes : (setup : Setup) (task : TaskNo) (o : Option Turned) (c : Rig) → Timed c → Goes now (effect_of setup task o c)
  wish_goes setup task None c h = record { times = h; lines = tt }
  wish_goes setup task (Some t) c h = effect_goes setup task t c h

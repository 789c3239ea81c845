-- Tasks keep their places from effect to effect.
use Rattle.std.specs.Prelude.{◌==◌, nat_lt, nat_le, ◌||◌}
use Rattle.std.proofs.Common.{◌≡◌, ℕ, ◌+◌, ◌<◌, ◌≤◌, Bool, true, false, List, [], ◌∷◌, ◌++◌, length, Option, None, Some, refl, ap, sym, ◌∙◌, subst, arith, rules, length-append}
use Rattle.gpi.specs.Events.{Event}
use Rattle.gpi.specs.Keys.{among, set_of}
use Rattle.gpi.specs.State.{is_end}
use Rattle.gpi.specs.declared.types.Key.{Key}
use Rattle.gpi.specs.declared.types.Key.TheVariants.{ReadWrite}
use Rattle.gpi.specs.declared.types.SigId.{SigId}
use Rattle.gpi.specs.declared.types.Write.{Write}
use Rattle.py_value.specs.declared.trigger.TaskNo.{TaskNo}
use Rattle.py_value.specs.declared.trigger.EventNo.{EventNo}
use Rattle.py_value.specs.declared.trigger.LockNo.{LockNo}
use Rattle.py_value.specs.declared.trigger.QueueNo.{QueueNo}
use Rattle.py_value.specs.declared.value.Value.{Value}
use Rattle.py_value.specs.declared.value.Value.TheVariants as value
use Rattle.py_value.specs.declared.value.Fault.{Fault}
use Rattle.await_tree.specs.declared.cause.Cause.{Cause}
use Rattle.await_tree.specs.declared.cause.Cause.TheVariants as cause
use Rattle.await_tree.specs.declared.cause.Given.{Given}
use Rattle.await_tree.specs.declared.cause.Given.TheVariants as given
use Rattle.await_tree.specs.declared.cause.Step.{Step}
use Rattle.await_tree.specs.declared.cause.Step.TheVariants.{Still, Done}
use Rattle.await_tree.specs.Tree.{Tree}
use Rattle.await_tree.specs.Begin.{begin}
use Rattle.await_tree.specs.Steps.{step_of}
use Rattle.await_tree.specs.Check.{tree_of, check}
use Rattle.await_tree.specs.EndedTasks.Endings.{is_done, start_limit}
use Rattle.await_tree.specs.declared.ended_tasks.ending.Ending.{Ending}
use Rattle.await_tree.specs.declared.ended_tasks.ending.Ending.TheVariants.{Returned, Failed, Killed}
use Rattle.await_tree.specs.SyncObjects.States.{with_set, is_held, event_limit, lock_limit}
use Rattle.run_view.specs.declared.signal_port.staged.Staged.{Staged}
use Rattle.task_queue.specs.Queues.{queue_at, is_full as has_no_room, is_at_limit, is_empty, with_items, with_item}
use Rattle.test_meaning.specs.Body.BodyTrees.{Function}
use Rattle.rig_model.specs.Task.Frame.{Task, fresh, function_at}
use Rattle.rig_model.specs.declared.task.task.Turned.{Turned}
use Rattle.rig_model.specs.declared.task.task.Turned.TheVariants as turned
use Rattle.await_tree.specs.declared.wait_list.ready.Entry.{Entry}
use Rattle.await_tree.specs.WaitList.Ring.{without_entry}
use Rattle.await_tree.specs.WaitList.Waiting.{Waiting, without_task, woken, is_wanted, is_joined, granted}
use Rattle.rig_model.specs.Run.Limits.{live_limit}
use Rattle.rig_model.specs.Run.Rig.{Rig, Setup, After, facts_of, awaited}
use Rattle.rig_model.specs.Run.Serve.{wake, serve_keys, with_fired, after_put, deposit, flushed, flushed_if, served, ended_if, is_due, serve, written}
use Rattle.rig_model.specs.Run.Effect.{gives, begun_by, awaits_by, waits, write_by, stages, puts, starts, starter, next_task, with_new_task, is_full, with_end, ends, returns, fails, withdrawn, killed, kills_by, kills, makes_event, makes_lock, makes_queue, sets_if, clears_if, with_put, puts_item, with_get, gets_item, releases, handed_on, effect}
use Rattle.rig_model.specs.Run.Step.{kept, resumed, evented, stored}
use Rattle.rig_model.specs.Parts.Placed.{placed, times, tasks_ready, tasks_waiting, one_if}
use Rattle.run_state.proofs.TestTasksLemmas.Whole.{bool_by}
use Rattle.scheduler.specs.EffectLaws.Stands.{turn_of, StandsIn, StandsOwn}
use Rattle.scheduler.proofs.EffectLawsLemmas.Times.{times_placed, ready_append, waiting_append, times_woken, times_granted, ready_without, ready_gone, waiting_without, waiting_gone, other_none}
use Rattle.scheduler.proofs.EffectLawsLemmas.Places.{placed_fewer, placed_stored, placed_ended, placed_started, turn_alone, no_more}

-- the turn is over
own_none : (d : Rig) → d.running ≡ None → StandsIn None d → StandsOwn d
own_none d e h = subst (λ (r : _). StandsIn (turn_of r) d) (sym e) h

-- ---- serving

module _ (turn : Option TaskNo) where
  -- the same tasks, in other places of the same number
  moved : (c d : Rig) → d.tasks ≡ c.tasks → d.endings ≡ c.endings
      → ((n : TaskNo) → times n (tasks_ready d.ready) + times n (tasks_waiting d.waiting) ≡ times n (tasks_ready c.ready) + times n (tasks_waiting c.waiting))
      → StandsIn turn c → StandsIn turn d
  moved c d t e same h = record {
    placed_are = rw (t, e) (placed_fewer c.tasks c.endings (placed turn c.ready c.waiting) h.placed_are (placed turn d.ready d.waiting) (λ n.
        omega (arith, times_placed n turn c.ready c.waiting, times_placed n turn d.ready d.waiting, same n)));
    live = rw t h.live;
  }

  pub wake_stands : (on : Cause) (c : Rig) → StandsIn turn c → StandsIn turn (wake on c)
  wake_stands on c h = moved c (wake on c) refl refl (λ n. omega (arith, ready_append n c.ready (woken on c.waiting), times_woken n on c.waiting)) h

  pub serve_keys_stands : (keys others : List Key) (c : Rig) → StandsIn turn c → StandsIn turn (serve_keys keys others c)
  serve_keys_stands [] others c h = record { placed_are = h.placed_are; live = h.live }
  serve_keys_stands (k ∷ ks) others c h =
      let w : StandsIn turn (wake (cause.Key k) c) = wake_stands (cause.Key k) c h in
      serve_keys_stands ks others (record (wake (cause.Key k) c) { fired = others ++ ks }) (record { placed_are = w.placed_are; live = w.live })

  put_stands : (setup : Setup) (e : Event) (c : Rig) → StandsIn turn c → StandsIn turn (after_put setup e c).rig
  put_stands setup e c h =
      let s : StandsIn turn (serve_keys e.fired c.fired (with_fired e.fired (record c { sim = e.state })))
      = serve_keys_stands e.fired c.fired (with_fired e.fired (record c { sim = e.state })) (record { placed_are = h.placed_are; live = h.live }) in
      record { placed_are = s.placed_are; live = s.live }

  pub deposit_stands : (setup : Setup) (sig : SigId) (act : Write) (c : Rig) → StandsIn turn c → StandsIn turn (deposit setup sig act c).rig
  deposit_stands setup sig act c h = put_stands setup (written setup c.sim (set_of (awaited c)) sig act) c h

  flushed_stands : (setup : Setup) (writes : List Staged) (c : Rig) → StandsIn turn c → StandsIn turn (flushed setup writes c).rig
  flushed_stands setup [] c h = h
  flushed_stands setup (w ∷ ws) c h =
      flushed_stands setup ws (deposit setup w.sig w.act (record c { staged = ws })).rig
      (deposit_stands setup w.sig w.act (record c { staged = ws }) (record { placed_are = h.placed_are; live = h.live }))

  flush_stands : (setup : Setup) (b : Bool) (c : Rig) → StandsIn turn c → StandsIn turn (flushed_if setup b c).rig
  flush_stands setup true c h = flushed_stands setup c.staged c h
  flush_stands setup false c h = h

  served_stands : (keys others : List Key) (c : Rig) → StandsIn turn c → StandsIn turn (served keys others c).rig
  served_stands keys others c h =
      let s : StandsIn turn (serve_keys keys others c) = serve_keys_stands keys others c h in record { placed_are = s.placed_are; live = s.live }

  ended_if_stands : (b : Bool) (c : Rig) → StandsIn turn c → StandsIn turn (ended_if b c).rig
  ended_if_stands true c h = record { placed_are = h.placed_are; live = h.live }
  ended_if_stands false c h = h

  pub serve_stands : (setup : Setup) (keys : List Key) (c : Rig) → StandsIn turn c → StandsIn turn (serve setup keys c).rig
  serve_stands setup keys c h =
      let d : Rig = (flushed_if setup (among ReadWrite keys) (with_fired keys c)).rig in
      let e : Rig = (served keys c.fired d).rig in
      ended_if_stands (is_due keys c.deadline) e
      (served_stands keys c.fired d (flush_stands setup (among ReadWrite keys) (with_fired keys c) (record { placed_are = h.placed_are; live = h.live })))

-- ---- the turn goes on, or is over

module _ (task : TaskNo) where
  gives_stands : (g : Given) (c : Rig) → StandsIn (Some task) c → StandsOwn (gives task g c).rig
  gives_stands g c h = record { placed_are = h.placed_are; live = h.live }

  -- the task has no place any more
  pub over_stands : (c : Rig) → StandsIn (Some task) c → StandsIn None c
  over_stands c h = record {
    placed_are = placed_fewer c.tasks c.endings (placed (Some task) c.ready c.waiting) h.placed_are (placed None c.ready c.waiting) (λ n.
        omega (arith, times_placed n (Some task) c.ready c.waiting, times_placed n None c.ready c.waiting));
    live = h.live;
  }

  -- it waits
  waits_stands : (tree : Tree) (c : Rig) → StandsIn (Some task) c → StandsIn None (waits task tree c)
  waits_stands tree c h =
      let w : Waiting = record { task = task; tree = tree } in
      record {
        placed_are = placed_fewer c.tasks c.endings (placed (Some task) c.ready c.waiting) h.placed_are (placed None c.ready (c.waiting ++ w ∷ [])) (λ n.
            omega (arith, times_placed n (Some task) c.ready c.waiting, times_placed n None c.ready (c.waiting ++ w ∷ []), waiting_append n c.waiting (w ∷ [])));
        live = h.live;
      }

  -- it is ready, behind all others
  ready_stands : (g : Given) (c : Rig) → StandsIn (Some task) c → StandsIn None (record c { ready = c.ready ++ record { task = task; given = g } ∷ [] })
  ready_stands g c h =
      let e : Entry = record { task = task; given = g } in
      record {
        placed_are = placed_fewer c.tasks c.endings (placed (Some task) c.ready c.waiting) h.placed_are (placed None (c.ready ++ e ∷ []) c.waiting) (λ n.
            omega (arith, times_placed n (Some task) c.ready c.waiting, times_placed n None (c.ready ++ e ∷ []) c.waiting, ready_append n c.ready (e ∷ [])));
        live = h.live;
      }

  begun_stands : (tree : Tree) (s : Step) (c : Rig) → c.running ≡ None → StandsIn (Some task) c → StandsOwn (begun_by task tree s c).rig
  begun_stands tree (Done g) c e h = gives_stands _ c h
  begun_stands tree Still c e h = own_none (waits task tree c) e (waits_stands tree c h)

  awaits_stands : (tree : Tree) (o : Option Fault) (c : Rig) → c.running ≡ None → StandsIn (Some task) c → StandsOwn (awaits_by task tree o c).rig
  awaits_stands tree (Some fault) c e h = gives_stands (given.Fault fault) c h
  awaits_stands tree None c e h =
      let b = begin tree (facts_of c) in
      begun_stands b.tree (step_of b.tree) (record c { objects = record c.objects { locks = b.facts.locks } }) e (record { placed_are = h.placed_are; live = h.live })

  write_stands : (b : Bool) (sig : SigId) (a : After) (c : Rig) → c.running ≡ None → StandsIn (Some task) c → StandsOwn a.rig → StandsOwn (write_by b sig a c).rig
  write_stands true sig a c e h k = own_none (write_by true sig a c).rig e (let o : StandsIn None c = over_stands c h in record { placed_are = o.placed_are; live = o.live })
  write_stands false sig a c e h k = k

  puts_stands : (setup : Setup) (sig : SigId) (act : Write) (c : Rig) → StandsIn (Some task) c → StandsOwn (puts setup task sig act c).rig
  puts_stands setup sig act c h = gives_stands (given.Value value.Absent) (deposit setup sig act c).rig (deposit_stands (Some task) setup sig act c h)

  -- ---- starts

  under : (a m : ℕ) → nat_le m a ≡ false → a < m
  under a m h = search rules

  first_false : (a b : Bool) → (a || b) ≡ false → a ≡ false
  first_false true b h = cc
  first_false false b h = refl

  pub new_stands : (turn : Option TaskNo) (function : Function) (args : List Value) (c : Rig) → length c.tasks < live_limit → StandsIn turn c
      → StandsIn turn (with_new_task function args c)
  new_stands turn function args c few h =
      let e : Entry = record { task = next_task c; given = given.Begin } in
      record {
        placed_are = placed_started c.tasks c.endings (placed turn c.ready c.waiting) h.placed_are (fresh (next_task c) function args) (placed turn (c.ready ++ e ∷ []) c.waiting) refl (λ n.
            omega (arith, times_placed n turn c.ready c.waiting, times_placed n turn (c.ready ++ e ∷ []) c.waiting, ready_append n c.ready (e ∷ [])));
        live = omega (arith, few, length-append c.tasks (fresh (next_task c) function args ∷ []));
      }

  starter_stands : (number : TaskNo) (b : Bool) (c : Rig) → c.running ≡ None → StandsIn (Some task) c → StandsOwn (starter task number b c).rig
  starter_stands number true c e h = own_none (starter task number true c).rig e (ready_stands (given.Value (value.Task number)) c h)
  starter_stands number false c e h = gives_stands (given.Value (value.Task number)) c h

  starts_stands : (full : Bool) (function : Function) (args : List Value) (b : Bool) (c : Rig) → is_full c ≡ full → c.running ≡ None → StandsIn (Some task) c
      → StandsOwn (starts full task function args b c).rig
  starts_stands true function args b c f e h = gives_stands _ c h
  starts_stands false function args b c f e h =
      let few : length c.tasks < live_limit = under (length c.tasks) live_limit (first_false (nat_le live_limit (length c.tasks)) (nat_le start_limit (length c.endings)) f) in
      starter_stands (next_task c) b (with_new_task function args c) e (new_stands (Some task) function args c few h)

  -- ---- ends

  -- the task itself ends
  own_ended : (ending : Ending) (c : Rig) → StandsIn (Some task) c → StandsIn None (with_end task ending c)
  own_ended ending c h = record {
    placed_are = placed_ended c.tasks c.endings (placed (Some task) c.ready c.waiting) h.placed_are task ending (placed None c.ready c.waiting)
        (λ n. omega (arith, times_placed n (Some task) c.ready c.waiting, times_placed n None c.ready c.waiting))
        (λ n q. omega (arith, turn_alone c.tasks c.endings task c.ready c.waiting h.placed_are n q, times_placed n None c.ready c.waiting));
    live = omega (arith, no_more task c.tasks, h.live);
  }

  ends_stands : (ending : Ending) (failed : Bool) (c : Rig) → StandsIn (Some task) c → StandsIn None (ends task ending failed c)
  ends_stands ending failed c h =
      let w : StandsIn None (wake (cause.Ended task failed) (with_end task ending c)) = wake_stands None (cause.Ended task failed) (with_end task ending c) (own_ended ending c h) in
      record { placed_are = w.placed_are; live = w.live }

  returns_stands : (v : Value) (c : Rig) → c.running ≡ None → StandsIn (Some task) c → StandsOwn (returns task v c).rig
  returns_stands v c e h =
      let w : StandsIn None (ends task (Returned v) false c) = ends_stands (Returned v) false c h in
      own_none (returns task v c).rig e (record { placed_are = w.placed_are; live = w.live })

  fails_stands : (b : Bool) (fault : Fault) (c : Rig) → c.running ≡ None → StandsIn (Some task) c → StandsOwn (fails b task fault c).rig
  fails_stands true fault c e h = own_none (ends task (Failed fault) true c) e (ends_stands (Failed fault) true c h)
  fails_stands false fault c e h =
      let w : StandsIn None (with_end task (Failed fault) c) = own_ended (Failed fault) c h in
      own_none (fails false task fault c).rig e (record { placed_are = w.placed_are; live = w.live })

  -- ---- kills

  module _ (m : TaskNo) (c : Rig) (apart : (m.0 == task.0) ≡ false) (h : StandsIn (Some task) c) where
    less : (n : TaskNo) → times n (placed (Some task) (without_entry m c.ready) (without_task m c.waiting)) ≤ times n (placed (Some task) c.ready c.waiting)
    less n = bool_by (times n (placed (Some task) (without_entry m c.ready) (without_task m c.waiting)) ≤ times n (placed (Some task) c.ready c.waiting)) (n.0 == m.0)
        (λ q. omega (
          arith,
          ready_gone n m c.ready q,
          waiting_gone n m c.waiting q,
          times_placed n (Some task) c.ready c.waiting,
          times_placed n (Some task) (without_entry m c.ready) (without_task m c.waiting),
        ))
        (λ q. omega (
          arith,
          ready_without n m c.ready q,
          waiting_without n m c.waiting q,
          times_placed n (Some task) c.ready c.waiting,
          times_placed n (Some task) (without_entry m c.ready) (without_task m c.waiting),
        ))

    none : (n : TaskNo) → (n.0 == m.0) ≡ true → times n (placed (Some task) (without_entry m c.ready) (without_task m c.waiting)) ≡ 0
    none n q =
        let o : one_if (task.0 == n.0) ≡ 0 = ap (λ (k : ℕ). one_if (task.0 == k)) (same n q) ∙ other_none m task apart in
        omega (arith, ready_gone n m c.ready q, waiting_gone n m c.waiting q, times_placed n (Some task) (without_entry m c.ready) (without_task m c.waiting), o)
      where
        same : (n : TaskNo) → (n.0 == m.0) ≡ true → n.0 ≡ m.0
        same n q = search rules

    killed_stands : StandsIn (Some task) (killed m c)
    killed_stands =
        let w : StandsIn (Some task) (wake (cause.Ended m false) (with_end m Killed (withdrawn m c)))
        = wake_stands (Some task) (cause.Ended m false) (with_end m Killed (withdrawn m c)) (record {
          placed_are = placed_ended c.tasks c.endings (placed (Some task) c.ready c.waiting) h.placed_are m Killed
              (placed (Some task) (without_entry m c.ready) (without_task m c.waiting)) less none;
          live = omega (arith, no_more m c.tasks, h.live);
        }) in
        record { placed_are = w.placed_are; live = w.live }

  kill_stands : (b : Bool) (m : TaskNo) (c : Rig) → (m.0 == task.0) ≡ false → StandsIn (Some task) c → StandsIn (Some task) (kills_by b m c)
  kill_stands true m c a h = h
  kill_stands false m c a h = killed_stands m c a h

  kills_stands : (b : Bool) (m : TaskNo) (c : Rig) → (m.0 == task.0) ≡ b → StandsIn (Some task) c → StandsOwn (kills b task m c).rig
  kills_stands true m c a h = gives_stands _ c h
  kills_stands false m c a h =
      gives_stands (given.Value value.Absent) (kills_by (is_done m c.endings) m c) (kill_stands (is_done m c.endings) m c a h)

  -- ---- events and locks

  event_stands : (b : Bool) (c : Rig) → StandsIn (Some task) c → StandsOwn (makes_event b task c).rig
  event_stands true c h = gives_stands _ c h
  event_stands false c h = record { placed_are = h.placed_are; live = h.live }

  lock_stands : (b : Bool) (c : Rig) → StandsIn (Some task) c → StandsOwn (makes_lock b task c).rig
  lock_stands true c h = gives_stands _ c h
  lock_stands false c h = record { placed_are = h.placed_are; live = h.live }

  handed_stands : (b : Bool) (l : LockNo) (c : Rig) → StandsIn (Some task) c → StandsIn (Some task) (handed_on b l c)
  handed_stands true l c h = moved (Some task) c (handed_on true l c) refl refl (λ n. omega (arith, ready_append n c.ready (granted l c.waiting).entries, times_granted n l c.waiting)) h
  handed_stands false l c h = record { placed_are = h.placed_are; live = h.live }

  release_stands : (b : Bool) (l : LockNo) (c : Rig) → StandsIn (Some task) c → StandsOwn (releases b task l c).rig
  release_stands true l c h =
      let w : StandsIn (Some task) (handed_on (is_wanted l c.waiting) l c) = handed_stands (is_wanted l c.waiting) l c h in
      record { placed_are = w.placed_are; live = w.live }
  release_stands false l c h = gives_stands _ c h

  -- ---- queues

  queue_stands : (b : Bool) (bound : ℕ) (c : Rig) → StandsIn (Some task) c → StandsOwn (makes_queue b task bound c).rig
  queue_stands true bound c h = gives_stands _ c h
  queue_stands false bound c h = record { placed_are = h.placed_are; live = h.live }

  set_stands : (b : Bool) (e : EventNo) (c : Rig) → StandsIn (Some task) c → StandsIn (Some task) (sets_if b e c)
  set_stands true e c h =
      let w : StandsIn (Some task) (wake (cause.Event e) (record c { objects = with_set e c.objects }))
      = wake_stands (Some task) (cause.Event e) (record c { objects = with_set e c.objects }) (record { placed_are = h.placed_are; live = h.live }) in
      record { placed_are = w.placed_are; live = w.live }
  set_stands false e c h = h

  cleared_stands : (b : Bool) (e : EventNo) (c : Rig) → StandsIn (Some task) c → StandsIn (Some task) (clears_if b e c)
  cleared_stands true e c h = record { placed_are = h.placed_are; live = h.live }
  cleared_stands false e c h = h

  item_put_stands : (queue : QueueNo) (item : Value) (c : Rig) → StandsIn (Some task) c → StandsIn (Some task) (with_put queue item c)
  item_put_stands queue item c h =
      let queues = with_item queue item c.queues in
      let before = queue_at queue c.queues in
      cleared_stands (has_no_room (queue_at queue queues)) before.space_event (sets_if (is_empty before.items) before.items_event (record c { queues = queues }))
      (set_stands (is_empty before.items) before.items_event (record c { queues = queues }) (record { placed_are = h.placed_are; live = h.live }))

  puts_item_stands : (full limit : Bool) (queue : QueueNo) (item : Value) (c : Rig) → StandsIn (Some task) c → StandsOwn (puts_item full limit task queue item c).rig
  puts_item_stands true limit queue item c h = gives_stands _ c h
  puts_item_stands false true queue item c h = gives_stands _ c h
  puts_item_stands false false queue item c h = gives_stands (given.Value value.Absent) (with_put queue item c) (item_put_stands queue item c h)

  item_got_stands : (queue : QueueNo) (items : List Value) (c : Rig) → StandsIn (Some task) c → StandsIn (Some task) (with_get queue items c)
  item_got_stands queue items c h =
      let queues = with_items queue items c.queues in
      let before = queue_at queue c.queues in
      cleared_stands (is_empty items) before.items_event (sets_if (has_no_room before) before.space_event (record c { queues = queues }))
      (set_stands (has_no_room before) before.space_event (record c { queues = queues }) (record { placed_are = h.placed_are; live = h.live }))

  gets_item_stands : (queue : QueueNo) (items : List Value) (c : Rig) → StandsIn (Some task) c → StandsOwn (gets_item task queue items c).rig
  gets_item_stands queue [] c h = gives_stands _ c h
  gets_item_stands queue (item ∷ items) c h = gives_stands (given.Value item) (with_get queue items c) (item_got_stands queue items c h)

-- ---- all of them

pub effect_stands : (setup : Setup) (task : TaskNo) (t : Turned) (c : Rig) → c.running ≡ None → StandsIn (Some task) c → StandsOwn (effect setup task t c).rig
effect_stands setup task (turned.Await trig) c e h = awaits_stands task (tree_of trig c.sim.time) (check trig c.sim.time c.sim.region) c e h
effect_stands setup task (turned.Stage sig act) c e h =
    write_stands task (is_end c.sim.region) sig (stages task sig act c) c e h (record { placed_are = h.placed_are; live = h.live })
effect_stands setup task (turned.Put sig act) c e h =
    write_stands task (is_end c.sim.region) sig (puts setup task sig act c) c e h (puts_stands task setup sig act c h)
effect_stands setup task (turned.Start func args give_way) c e h =
    starts_stands task (is_full c) (function_at setup.functions func) args give_way c refl e h
effect_stands setup task (turned.Kill other) c e h = kills_stands task (other.0 == task.0) other c refl h
effect_stands setup task turned.NewEvent c e h = event_stands task (nat_le event_limit (length c.objects.events)) c h
effect_stands setup task (turned.SetEvent event) c e h =
    let w : StandsIn (Some task) (wake (cause.Event event) (record c { objects = with_set event c.objects }))
    = wake_stands (Some task) (cause.Event event) (record c { objects = with_set event c.objects }) (record { placed_are = h.placed_are; live = h.live }) in
    record { placed_are = w.placed_are; live = w.live }
effect_stands setup task (turned.ClearEvent event) c e h = record { placed_are = h.placed_are; live = h.live }
effect_stands setup task turned.NewLock c e h = lock_stands task (nat_le lock_limit (length c.objects.locks)) c h
effect_stands setup task (turned.Release lock) c e h = release_stands task (is_held lock c.objects) lock c h
effect_stands setup task (turned.NewQueue bound) c e h = queue_stands task (nat_lt event_limit (length c.objects.events + 2)) bound c h
effect_stands setup task (turned.PutNow queue item) c e h =
    puts_item_stands task (has_no_room (queue_at queue c.queues)) (is_at_limit (queue_at queue c.queues)) queue item c h
effect_stands setup task (turned.GetNow queue) c e h = gets_item_stands task queue (queue_at queue c.queues).items c h
effect_stands setup task (turned.Draw low span) c e h = record { placed_are = h.placed_are; live = h.live }
effect_stands setup task (turned.Log level text) c e h = record { placed_are = h.placed_are; live = h.live }
effect_stands setup task (turned.Done v) c e h = returns_stands task v c e h
effect_stands setup task (turned.Raised fault) c e h = fails_stands task (is_joined task c.waiting) fault c e h
effect_stands setup task turned.Spent c e h = own_none c e (over_stands task c h)

-- ---- steps

pub evented_stands : (setup : Setup) (e : Event) (c : Rig) → c.running ≡ None → StandsIn None c → StandsOwn (evented setup e c).rig
evented_stands setup e c r h =
    own_none (evented setup e c).rig (serve_running setup e.fired (record c { sim = e.state }) ∙ r)
    (serve_stands None setup e.fired (record c { sim = e.state }) (record { placed_are = h.placed_are; live = h.live }))
  where
    keys_running : (keys others : List Key) (d : Rig) → (serve_keys keys others d).running ≡ d.running
    keys_running [] others d = refl
    keys_running (k ∷ ks) others d = keys_running ks others (record (wake (cause.Key k) d) { fired = others ++ ks })

    flushed_running : (setup : Setup) (ws : List Staged) (d : Rig) → (flushed setup ws d).rig.running ≡ d.running
    flushed_running setup [] d = refl
    flushed_running setup (w ∷ ws) d =
        let p : Event = written setup d.sim (set_of (awaited (record d { staged = ws }))) w.sig w.act in
        flushed_running setup ws (deposit setup w.sig w.act (record d { staged = ws })).rig ∙ keys_running p.fired d.fired (with_fired p.fired (record d { staged = ws; sim = p.state }))

    flush_running : (setup : Setup) (b : Bool) (d : Rig) → (flushed_if setup b d).rig.running ≡ d.running
    flush_running setup true d = flushed_running setup d.staged d
    flush_running setup false d = refl

    if_running : (b : Bool) (d : Rig) → (ended_if b d).rig.running ≡ d.running
    if_running true d = refl
    if_running false d = refl

    serve_running : (setup : Setup) (keys : List Key) (d : Rig) → (serve setup keys d).rig.running ≡ d.running
    serve_running setup keys d =
        let f : Rig = (flushed_if setup (among ReadWrite keys) (with_fired keys d)).rig in
        if_running (is_due keys d.deadline) (served keys d.fired f).rig ∙ keys_running keys d.fired f ∙ flush_running setup (among ReadWrite keys) (with_fired keys d)

pub first_stands : (e : Entry) (es : List Entry) (c : Rig) → c.ready ≡ e ∷ es → StandsIn None c → StandsOwn (resumed e es c)
first_stands e es c is h = record {
  placed_are = placed_fewer c.tasks c.endings (placed None c.ready c.waiting) h.placed_are (placed (Some e.task) es c.waiting) (λ n.
      omega (arith, times_placed n (Some e.task) es c.waiting, times_placed n None c.ready c.waiting, ap (λ (xs : List Entry). times n (tasks_ready xs)) is));
  live = h.live;
}

pub stored_long : (number : TaskNo) (r : Task) (ts : List Task) → length (stored number r ts) ≡ length ts
stored_long number r [] = refl
stored_long number r (t ∷ ts) = decided (t.number.0 == number.0) refl (stored_long number r ts)
  where
    decided : (b : Bool) → (t.number.0 == number.0) ≡ b → length (stored number r ts) ≡ length ts → length (stored number r (t ∷ ts)) ≡ length (t ∷ ts)
    decided true q more = rw q refl
    decided false q more = rw q (omega (arith, more))

pub rest_stands : (task : TaskNo) (rest : Task) (c : Rig) → rest.number ≡ task → StandsIn (Some task) c → StandsIn (Some task) (kept task rest c)
rest_stands task rest c own h = record {
  placed_are = placed_stored c.tasks c.endings (placed (Some task) c.ready c.waiting) h.placed_are task rest own;
  live = omega (arith, stored_long task rest c.tasks, h.live);
}

-- How a task has ended stays.
use Rattle.std.proofs.Common.{◌≡◌, ℕ, Bool, true, false, List, [], ◌∷◌, length, Option, None, Some, refl, ap, sym, ◌∙◌, subst, arith}
use Rattle.std.specs.Prelude.{◌==◌, nat_le, is_some, slice_index_or, nat_lt, ◌+◌}
use Rattle.gpi.specs.Events.{Event}
use Rattle.gpi.specs.Keys.{among, set_of}
use Rattle.gpi.specs.State.{is_end}
use Rattle.gpi.specs.declared.types.Key.{Key}
use Rattle.gpi.specs.declared.types.Key.TheVariants.{ReadWrite}
use Rattle.gpi.specs.declared.types.SigId.{SigId}
use Rattle.gpi.specs.declared.types.Write.{Write}
use Rattle.py_value.specs.declared.trigger.LockNo.{LockNo}
use Rattle.py_value.specs.declared.trigger.TaskNo.{TaskNo}
use Rattle.py_value.specs.declared.value.Value.{Value}
use Rattle.py_value.specs.declared.value.Fault.{Fault}
use Rattle.await_tree.specs.Begin.{begin}
use Rattle.await_tree.specs.Check.{tree_of, check}
use Rattle.await_tree.specs.Steps.{step_of}
use Rattle.await_tree.specs.Tree.{Tree}
use Rattle.await_tree.specs.declared.cause.Step.{Step}
use Rattle.await_tree.specs.declared.cause.Step.TheVariants.{Still, Done}
use Rattle.await_tree.specs.EndedTasks.Endings.{Endings, ending_of, is_done, with_ending, with_task}
use Rattle.await_tree.specs.declared.ended_tasks.ending.Ending.{Ending}
use Rattle.await_tree.specs.declared.ended_tasks.ending.Ending.TheVariants.{Returned, Failed, Killed}
use Rattle.await_tree.specs.SyncObjects.States.{event_limit, is_held, lock_limit}
use Rattle.run_view.specs.declared.signal_port.staged.Staged.{Staged}
use Rattle.test_meaning.specs.Body.BodyTrees.{Case, Function}
use Rattle.task_queue.specs.Queues.{TaskQueue, queue_at, is_full as has_no_room, is_at_limit, is_empty, with_items, with_item}
use Rattle.py_value.specs.declared.trigger.EventNo.{EventNo}
use Rattle.py_value.specs.declared.trigger.QueueNo.{QueueNo}
use Rattle.rig_model.specs.Task.Frame.{Task, function_at}
use Rattle.rig_model.specs.Task.Step.{next}
use Rattle.rig_model.specs.declared.task.task.Turned.{Turned}
use Rattle.rig_model.specs.declared.task.task.Turned.TheVariants as turned
use Rattle.await_tree.specs.WaitList.Waiting.{is_joined, is_wanted}
use Rattle.await_tree.specs.declared.wait_list.ready.Entry.{Entry}
use Rattle.rig_model.specs.Run.Effect.{begun_by, awaits_by, write_by, stages, puts, starts, starter, next_task, with_new_task, fails, kills_by, kills, makes_event, makes_lock, releases, is_full, handed_on, effect, effect_of, makes_queue, sets_if, clears_if, puts_item, gets_item}
use Rattle.rig_model.specs.Run.Rig.{Rig, Setup, Running, After, event_of, facts_of, procs, view_of}
use Rattle.rig_model.specs.Run.Rig as rig
use Rattle.rig_model.specs.Run.Run.{Run}
use Rattle.rig_model.specs.Run.Serve.{serve_keys, with_fired, after_put, deposit, flushed, flushed_if, served, ended_if, is_due, serve, written}
use Rattle.rig_model.specs.Run.Step.{task_at, taken, stepped, kept, after_event, resumed, chosen, rig_step}
use Rattle.run_laws.specs.Places.Places.{KeepEndings, turn_of}
use Rattle.run_laws.specs.Places.Reached.{IsReached}
use Rattle.run_laws.proofs.PlacesLemmas.Counts.{none_more, one_true, other_at}
use Rattle.run_laws.proofs.PlacesLemmas.Places.{done_below, first_stands, own_turn, reached_own}
use Rattle.run_laws.proofs.PlacesLemmas.Stands.{StandIn, StandOwn}

-- the task that has its turn hasn't ended
unended : (task : TaskNo) (c : Rig) → StandIn (Some task) c → is_done task c.endings ≡ false
unended task c h = by_done (is_done task c.endings) refl
  where
    by_done : (b : Bool) → is_done task c.endings ≡ b → is_done task c.endings ≡ false
    by_done true e =
        absurd (omega (arith, h.placed task, own_turn task, h.below task (done_below task c.endings e), one_true (is_done task c.endings) e))
    by_done false e = e

-- ---- what each change of endings keeps

module _ (P : Endings → Type 0) (starting : (es : Endings) → P es → P (with_task es))
    (ending : (task : TaskNo) (e : Ending) (es : Endings) → is_done task es ≡ false → P es → P (with_ending task e es)) where
  abbrev Keeps : Rig → Type 0
  Keeps c = P c.endings

  keys_keep : (keys others : List Key) (c : Rig) → Keeps c → Keeps (serve_keys keys others c)
  keys_keep [] others c h = h
  keys_keep (k ∷ ks) others c h = keys_keep ks others _ h

  put_keeps : (setup : Setup) (e : Event) (c : Rig) → Keeps c → Keeps (after_put setup e c).rig
  put_keeps setup e c h = keys_keep e.fired c.fired (with_fired e.fired (record c { sim = e.state })) h

  deposit_keeps : (setup : Setup) (sig : SigId) (act : Write) (c : Rig) → Keeps c → Keeps (deposit setup sig act c).rig
  deposit_keeps setup sig act c h = put_keeps setup (written setup c.sim (set_of (rig.awaited c)) sig act) c h

  flushed_keeps : (setup : Setup) (writes : List Staged) (c : Rig) → Keeps c → Keeps (flushed setup writes c).rig
  flushed_keeps setup [] c h = h
  flushed_keeps setup (w ∷ ws) c h =
      flushed_keeps setup ws (deposit setup w.sig w.act (record c { staged = ws })).rig (deposit_keeps setup w.sig w.act (record c { staged = ws }) h)

  flush_keeps : (setup : Setup) (b : Bool) (c : Rig) → Keeps c → Keeps (flushed_if setup b c).rig
  flush_keeps setup true c h = flushed_keeps setup c.staged c h
  flush_keeps setup false c h = h

  ended_if_keeps : (b : Bool) (c : Rig) → Keeps c → Keeps (ended_if b c).rig
  ended_if_keeps true c h = h
  ended_if_keeps false c h = h

  serve_keeps : (setup : Setup) (keys : List Key) (c : Rig) → Keeps c → Keeps (serve setup keys c).rig
  serve_keeps setup keys c h =
      let d : Rig = (flushed_if setup (among ReadWrite keys) (with_fired keys c)).rig in
      ended_if_keeps (is_due keys c.deadline) (served keys c.fired d).rig
      (keys_keep keys c.fired d (flush_keeps setup (among ReadWrite keys) (with_fired keys c) h))

  -- ---- effects

  begun_keeps : (task : TaskNo) (tree : Tree) (s : Step) (c : Rig) → Keeps c → Keeps (begun_by task tree s c).rig
  begun_keeps task tree (Done g) c h = h
  begun_keeps task tree Still c h = h

  awaits_keeps : (task : TaskNo) (tree : Tree) (o : Option Fault) (c : Rig) → Keeps c → Keeps (awaits_by task tree o c).rig
  awaits_keeps task tree (Some fault) c h = h
  awaits_keeps task tree None c h =
      let b = begin tree (facts_of c) in begun_keeps task b.tree (step_of b.tree) (record c { objects = record c.objects { locks = b.facts.locks } }) h

  write_keeps : (b : Bool) (sig : SigId) (a : After) (c : Rig) → Keeps c → Keeps a.rig → Keeps (write_by b sig a c).rig
  write_keeps true sig a c h k = h
  write_keeps false sig a c h k = k

  starter_keeps : (task number : TaskNo) (b : Bool) (c : Rig) → Keeps c → Keeps (starter task number b c).rig
  starter_keeps task number true c h = h
  starter_keeps task number false c h = h

  starts_keep : (full : Bool) (task : TaskNo) (function : Function) (args : List Value) (b : Bool) (c : Rig) → Keeps c → Keeps (starts full task function args b c).rig
  starts_keep true task function args b c h = h
  starts_keep false task function args b c h = starter_keeps task (next_task c) b (with_new_task function args c) (starting c.endings h)

  fails_keep : (b : Bool) (task : TaskNo) (fault : Fault) (c : Rig) → is_done task c.endings ≡ false → Keeps c → Keeps (fails b task fault c).rig
  fails_keep true task fault c n h = ending task (Failed fault) c.endings n h
  fails_keep false task fault c n h = ending task (Failed fault) c.endings n h

  kill_keeps : (b : Bool) (other : TaskNo) (c : Rig) → is_done other c.endings ≡ b → Keeps c → Keeps (kills_by b other c)
  kill_keeps true other c n h = h
  kill_keeps false other c n h = ending other Killed c.endings n h

  kills_keep : (b : Bool) (task other : TaskNo) (c : Rig) → Keeps c → Keeps (kills b task other c).rig
  kills_keep true task other c h = h
  kills_keep false task other c h = kill_keeps (is_done other c.endings) other c refl h

  event_keeps : (b : Bool) (task : TaskNo) (c : Rig) → Keeps c → Keeps (makes_event b task c).rig
  event_keeps true task c h = h
  event_keeps false task c h = h

  lock_keeps : (b : Bool) (task : TaskNo) (c : Rig) → Keeps c → Keeps (makes_lock b task c).rig
  lock_keeps true task c h = h
  lock_keeps false task c h = h

  handed_keeps : (b : Bool) (l : LockNo) (c : Rig) → Keeps c → Keeps (handed_on b l c)
  handed_keeps true l c h = h
  handed_keeps false l c h = h

  release_keeps : (b : Bool) (task : TaskNo) (l : LockNo) (c : Rig) → Keeps c → Keeps (releases b task l c).rig
  release_keeps true task l c h = handed_keeps (is_wanted l c.waiting) l c h
  release_keeps false task l c h = h

  queue_keeps : (b : Bool) (task : TaskNo) (bound : ℕ) (c : Rig) → Keeps c → Keeps (makes_queue b task bound c).rig
  queue_keeps true task bound c h = h
  queue_keeps false task bound c h = h

  flags_keep : (a b : Bool) (x y : EventNo) (c : Rig) → Keeps c → Keeps (clears_if a x (sets_if b y c))
  flags_keep true true x y c h = h
  flags_keep false true x y c h = h
  flags_keep true false x y c h = h
  flags_keep false false x y c h = h

  put_item_keeps : (full limit : Bool) (task : TaskNo) (q : QueueNo) (item : Value) (c : Rig) → Keeps c → Keeps (puts_item full limit task q item c).rig
  put_item_keeps true limit task q item c h = h
  put_item_keeps false true task q item c h = h
  put_item_keeps false false task q item c h =
      let old : TaskQueue = queue_at q c.queues in
      flags_keep (has_no_room (queue_at q (with_item q item c.queues))) (is_empty old.items) old.space_event old.items_event
      (record c { queues = with_item q item c.queues }) h

  get_item_keeps : (task : TaskNo) (q : QueueNo) (items : List Value) (c : Rig) → Keeps c → Keeps (gets_item task q items c).rig
  get_item_keeps task q [] c h = h
  get_item_keeps task q (item ∷ items) c h =
      let old : TaskQueue = queue_at q c.queues in
      flags_keep (is_empty items) (has_no_room old) old.items_event old.space_event (record c { queues = with_items q items c.queues }) h

  effect_keeps : (setup : Setup) (task : TaskNo) (t : Turned) (c : Rig) → is_done task c.endings ≡ false → Keeps c → Keeps (effect setup task t c).rig
  effect_keeps setup task (turned.Await trig) c n h = awaits_keeps task (tree_of trig c.sim.time) (check trig c.sim.time c.sim.region) c h
  effect_keeps setup task (turned.Stage sig act) c n h = write_keeps (is_end c.sim.region) sig (stages task sig act c) c h h
  effect_keeps setup task (turned.Put sig act) c n h = write_keeps (is_end c.sim.region) sig (puts setup task sig act c) c h (deposit_keeps setup sig act c h)
  effect_keeps setup task (turned.Start func args give_way) c n h = starts_keep (is_full c) task (function_at setup.functions func) args give_way c h
  effect_keeps setup task (turned.Kill other) c n h = kills_keep (other.0 == task.0) task other c h
  effect_keeps setup task turned.NewEvent c n h = event_keeps (nat_le event_limit (length c.objects.events)) task c h
  effect_keeps setup task (turned.SetEvent e) c n h = h
  effect_keeps setup task (turned.ClearEvent e) c n h = h
  effect_keeps setup task turned.NewLock c n h = lock_keeps (nat_le lock_limit (length c.objects.locks)) task c h
  effect_keeps setup task (turned.Release l) c n h = release_keeps (is_held l c.objects) task l c h
  effect_keeps setup task (turned.NewQueue bound) c n h = queue_keeps (nat_lt event_limit (length c.objects.events + 2)) task bound c h
  effect_keeps setup task (turned.PutNow q item) c n h = put_item_keeps (has_no_room (queue_at q c.queues)) (is_at_limit (queue_at q c.queues)) task q item c h
  effect_keeps setup task (turned.GetNow q) c n h = get_item_keeps task q (queue_at q c.queues).items c h
  effect_keeps setup task (turned.Draw low span) c n h = h
  effect_keeps setup task (turned.Log level text) c n h = h
  effect_keeps setup task (turned.Done v) c n h = ending task (Returned v) c.endings n h
  effect_keeps setup task (turned.Raised fault) c n h = fails_keep (is_joined task c.waiting) task fault c n h
  effect_keeps setup task turned.Spent c n h = h

  wish_keeps : (setup : Setup) (task : TaskNo) (o : Option Turned) (c : Rig) → is_done task c.endings ≡ false → Keeps c → Keeps (effect_of setup task o c).rig
  wish_keeps setup task None c n h = h
  wish_keeps setup task (Some t) c n h = effect_keeps setup task t c n h

  -- ---- steps

  stepped_keeps : (setup : Setup) (r : Running) (o : Option Task) (c : Rig) → is_done r.task c.endings ≡ false → Keeps c → Keeps (stepped setup r o c).rig
  stepped_keeps setup r None c n h = h
  stepped_keeps setup r (Some task) c n h =
      let x = next setup.functions task r.given (view_of setup c) in wish_keeps setup r.task x.turned (kept r.task x.task c) n h

  after_keeps : (setup : Setup) (o : Option Event) (c : Rig) → Keeps c → Keeps (after_event setup o c).rig
  after_keeps setup None c h = h
  after_keeps setup (Some e) c h = serve_keeps setup e.fired (record c { sim = e.state }) h

  chosen_keeps : (setup : Setup) (running : Option Running) (ready : List Entry) (c : Rig) → c.running ≡ running → c.ready ≡ ready → StandOwn c → Keeps c
      → Keeps (chosen setup running ready c).rig
  chosen_keeps setup (Some r) ready c e s w h =
      stepped_keeps setup r (task_at r.task c.tasks) c (unended r.task c (subst (λ (o : Option Running). StandIn (turn_of o) c) e w)) h
  chosen_keeps setup None (x ∷ xs) c e s w h =
      let i : StandIn None c = subst (λ (o : Option Running). StandIn (turn_of o) c) e w in
      stepped_keeps setup (taken c x) (task_at x.task c.tasks) (resumed x xs c) (unended x.task (resumed x xs c) (first_stands x xs c s i)) h
  chosen_keeps setup None [] c e s w h = after_keeps setup (event_of setup c) c h

-- ---- runs

-- one that ends now hadn't ended before
ended_stays : (n : TaskNo) (was : Ending) (task : TaskNo) (e : Ending) (es : Endings) → is_done task es ≡ false → ending_of n es ≡ Some was
    → ending_of n (with_ending task e es) ≡ Some was
ended_stays n was task e es u h = other_at es (Some e) None task.0 n.0 (λ (q : task.0 ≡ n.0). is_other q) ∙ h
  where
    is_other : task.0 ≡ n.0 → ⊥
    is_other q =
        let at : is_done task es ≡ true = ap (λ (k : ℕ). is_some (slice_index_or es k None)) q ∙ ap (λ (o : Option Ending). is_some o) h in
        let z : true ≡ false = sym at ∙ u in
        cc

pub endings_stay : (setup : Setup) (seed : ℕ) (cases : List Case) (run : Run) → IsReached setup seed cases run → run.rig.outcome ≡ None
    → KeepEndings run.rig (rig_step setup run.rig).rig
endings_stay setup seed cases run r o task was h =
    chosen_keeps (λ (es : Endings). ending_of task es ≡ Some was) (λ es k. none_more es None task.0 ∙ k) (ended_stays task was) setup
    run.rig.running run.rig.ready run.rig refl refl (reached_own setup seed cases run r o) h

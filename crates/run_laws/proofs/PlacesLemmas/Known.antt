-- Each configuration that a run reaches is known, and its signals are as wide as the design says.
use Rattle.std.proofs.Common.{◌≡◌, ℕ, suc, ◌<◌, Bool, true, false, List, [], ◌∷◌, length, get_or, Option, None, Some, Ok, Err, refl, ap, sym, ◌∙◌, subst, arith}
use Rattle.std.proofs.lemmas.List.{length-map, length-replicate}
use Rattle.std.specs.Prelude.{◌==◌, nat_le, IfSome, nat_lt, ◌+◌}
use Rattle.gpi.specs.declared.design.Node.{Node}
use Rattle.gpi.specs.declared.design.Signal.{Signal}
use Rattle.gpi.specs.declared.types.Counts.{Counts}
use Rattle.gpi.specs.declared.types.Key.{Key}
use Rattle.gpi.specs.declared.types.Key.TheVariants.{ReadWrite}
use Rattle.gpi.specs.declared.types.SigId.{SigId}
use Rattle.gpi.specs.declared.types.Write.{Write}
use Rattle.gpi.specs.declared.types.Write.TheVariants as write
use Rattle.gpi.specs.Content.{no_counts}
use Rattle.gpi.specs.Activation.{AreHidden}
use Rattle.gpi.specs.Design.{widths, start_map, start_hidden}
use Rattle.gpi.specs.Events.{Event, value_at}
use Rattle.gpi.specs.Keys.{among, set_of, Keys}
use Rattle.gpi.specs.State.{State, is_end}
use Rattle.gpi.specs.Terms.{widths_of}
use Rattle.gpi.proofs.Widths.{length_widths, get_or_widths}
use Rattle.py_value.specs.Answer.{Answer}
use Rattle.py_value.specs.declared.trigger.LockNo.{LockNo}
use Rattle.py_value.specs.declared.trigger.TaskNo.{TaskNo}
use Rattle.py_value.specs.declared.value.Value.{Value}
use Rattle.py_value.specs.declared.value.Fault.{Fault}
use Rattle.py_evaluate.specs.Attribute.Look.{View}
use Rattle.run_view.specs.RandomStream.Generator.{Generator}
use Rattle.await_tree.specs.declared.cause.Given.{Given}
use Rattle.await_tree.specs.declared.cause.Given.TheVariants as given
use Rattle.await_tree.specs.declared.cause.Step.{Step}
use Rattle.await_tree.specs.declared.cause.Step.TheVariants.{Still, Done}
use Rattle.await_tree.specs.Begin.{begin}
use Rattle.await_tree.specs.Check.{tree_of, check}
use Rattle.await_tree.specs.Steps.{step_of}
use Rattle.await_tree.specs.Tree.{Tree}
use Rattle.await_tree.specs.EndedTasks.Endings.{is_done, ending_of, joined_given, told_given}
use Rattle.await_tree.specs.declared.ended_tasks.ending.Ending.{Ending}
use Rattle.await_tree.specs.declared.ended_tasks.ending.Ending.TheVariants.{Returned, Failed, Killed}
use Rattle.await_tree.specs.SyncObjects.States.{is_held, event_limit, lock_limit}
use Rattle.run_view.specs.declared.signal_port.staged.Staged.{Staged}
use Rattle.test_meaning.specs.Body.BodyTrees.{Case, Function, Limit}
use Rattle.task_queue.specs.Queues.{TaskQueue, queue_at, is_full as has_no_room, is_at_limit, is_empty, with_items, with_item}
use Rattle.py_value.specs.declared.trigger.EventNo.{EventNo}
use Rattle.py_value.specs.declared.trigger.QueueNo.{QueueNo}
use Rattle.rig_model.specs.Task.Frame.{Task, function_at}
use Rattle.rig_model.specs.Task.Known.{KnowsGiven, KnowsTurned, KnowsWhole, KnowsWrite}
use Rattle.rig_model.specs.Task.Step.{next}
use Rattle.rig_model.specs.declared.task.task.Turned.{Turned}
use Rattle.rig_model.specs.declared.task.task.Turned.TheVariants as turned
use Rattle.rig_model.proofs.TaskLemmas.StepKnown.{next_is_known}
use Rattle.await_tree.specs.WaitList.Waiting.{is_joined, is_wanted}
use Rattle.await_tree.specs.declared.wait_list.ready.Entry.{Entry}
use Rattle.run_view.specs.View.{IsOf}
use Rattle.run_view.proofs.Known.{names_known}
use Rattle.rig_model.specs.Run.Case.{values_of, limit_steps, with_deadline, with_limit, with_test, emptied}
use Rattle.rig_model.specs.declared.run.outcome.Outcome.{Outcome}
use Rattle.rig_model.specs.Run.Verdict.{reason_of}
use Rattle.rig_model.specs.Run.Effect.{begun_by, awaits_by, write_by, stages, puts, starts, starter, next_task, with_new_task, fails, kills_by, kills, makes_event, makes_lock, releases, is_full, handed_on, effect, effect_of, makes_queue, sets_if, clears_if, puts_item, gets_item}
use Rattle.rig_model.specs.Run.Known.{IsKnown, KnowsEnding, KnowsReady, KnowsRunning, KnowsStaged}
use Rattle.rig_model.specs.Run.Rig.{Rig, Setup, Running, After, awaited, event_of, facts_of, procs, view_of, nets}
use Rattle.rig_model.specs.Run.Run.{Run, Place, Begins, Runs, Waits, Over, skipped, unskipped, with_skips, begun, planned, judged, step_in, step_at, step, opening}
use Rattle.rig_model.specs.Run.Serve.{serve_keys, with_fired, after_put, deposit, flushed, flushed_if, served, ended_if, is_due, serve, written}
use Rattle.rig_model.specs.Run.Step.{task_at, taken, stepped, kept, after_event, resumed, chosen, rig_step}
use Rattle.rig_model.proofs.RunLemmas.KnownRuns.{run_step_known}
use Rattle.rig_model.proofs.RunLemmas.Lists.{at_known, ending_known, events_known}
use Rattle.run_laws.specs.Places.Reached.{IsReached, IsSoundSetup}
use Rattle.run_laws.proofs.PlacesLemmas.Reached.{reached_each}
use Rattle.run_laws.proofs.PlacesLemmas.States.{IsWide, IsWrite, IsAct, put_wide, force_wide, release_wide, shown_write, Leaves, event_wide}

-- ---- the state after a step that writes nothing

module _ (P : State → Type 0) where
  deadline_state : (r : Answer ℕ) (c : Rig) → P c.sim → P (with_deadline r c).sim
  deadline_state (Ok steps) c h = h
  deadline_state (Err kind) c h = h

  limit_state : (step_fs : ℕ) (limit : Option Limit) (c : Rig) → P c.sim → P (with_limit step_fs limit c).sim
  limit_state step_fs None c h = h
  limit_state step_fs (Some limit) c h = deadline_state (limit_steps step_fs limit) c h

  test_state : (setup : Setup) (case : Case) (r : Answer (List Value)) (c : Rig) → P c.sim → P (with_test setup case r c).sim
  test_state setup case (Ok values) c h = limit_state setup.flat.step_fs case.time _ h
  test_state setup case (Err kind) c h = h

  keys_state : (keys others : List Key) (c : Rig) → P c.sim → P (serve_keys keys others c).sim
  keys_state [] others c h = h
  keys_state (k ∷ ks) others c h = keys_state ks others _ h

  ended_if_state : (b : Bool) (c : Rig) → P c.sim → P (ended_if b c).rig.sim
  ended_if_state true c h = h
  ended_if_state false c h = h

  begun_state : (task : TaskNo) (tree : Tree) (s : Step) (c : Rig) → P c.sim → P (begun_by task tree s c).rig.sim
  begun_state task tree (Done g) c h = h
  begun_state task tree Still c h = h

  awaits_state : (task : TaskNo) (tree : Tree) (o : Option Fault) (c : Rig) → P c.sim → P (awaits_by task tree o c).rig.sim
  awaits_state task tree (Some fault) c h = h
  awaits_state task tree None c h = begun_state task (begin tree (facts_of c)).tree (step_of (begin tree (facts_of c)).tree) _ h

  write_state : (b : Bool) (sig : SigId) (a : After) (c : Rig) → P c.sim → P a.rig.sim → P (write_by b sig a c).rig.sim
  write_state true sig a c h k = h
  write_state false sig a c h k = k

  starter_state : (task number : TaskNo) (b : Bool) (c : Rig) → P c.sim → P (starter task number b c).rig.sim
  starter_state task number true c h = h
  starter_state task number false c h = h

  starts_state : (full : Bool) (task : TaskNo) (function : Function) (args : List Value) (b : Bool) (c : Rig) → P c.sim → P (starts full task function args b c).rig.sim
  starts_state true task function args b c h = h
  starts_state false task function args b c h = starter_state task (next_task c) b (with_new_task function args c) h

  fails_state : (b : Bool) (task : TaskNo) (fault : Fault) (c : Rig) → P c.sim → P (fails b task fault c).rig.sim
  fails_state true task fault c h = h
  fails_state false task fault c h = h

  kill_state : (b : Bool) (other : TaskNo) (c : Rig) → P c.sim → P (kills_by b other c).sim
  kill_state true other c h = h
  kill_state false other c h = h

  kills_state : (b : Bool) (task other : TaskNo) (c : Rig) → P c.sim → P (kills b task other c).rig.sim
  kills_state true task other c h = h
  kills_state false task other c h = kill_state (is_done other c.endings) other c h

  event_state : (b : Bool) (task : TaskNo) (c : Rig) → P c.sim → P (makes_event b task c).rig.sim
  event_state true task c h = h
  event_state false task c h = h

  lock_state : (b : Bool) (task : TaskNo) (c : Rig) → P c.sim → P (makes_lock b task c).rig.sim
  lock_state true task c h = h
  lock_state false task c h = h

  handed_state : (b : Bool) (l : LockNo) (c : Rig) → P c.sim → P (handed_on b l c).sim
  handed_state true l c h = h
  handed_state false l c h = h

  release_state : (b : Bool) (task : TaskNo) (l : LockNo) (c : Rig) → P c.sim → P (releases b task l c).rig.sim
  release_state true task l c h = handed_state (is_wanted l c.waiting) l c h
  release_state false task l c h = h

  queue_state : (b : Bool) (task : TaskNo) (bound : ℕ) (c : Rig) → P c.sim → P (makes_queue b task bound c).rig.sim
  queue_state true task bound c h = h
  queue_state false task bound c h = h

  flags_state : (a b : Bool) (x y : EventNo) (c : Rig) → P c.sim → P (clears_if a x (sets_if b y c)).sim
  flags_state true true x y c h = h
  flags_state false true x y c h = h
  flags_state true false x y c h = h
  flags_state false false x y c h = h

  put_item_state : (full limit : Bool) (task : TaskNo) (q : QueueNo) (item : Value) (c : Rig) → P c.sim → P (puts_item full limit task q item c).rig.sim
  put_item_state true limit task q item c h = h
  put_item_state false true task q item c h = h
  put_item_state false false task q item c h =
      let old : TaskQueue = queue_at q c.queues in
      flags_state (has_no_room (queue_at q (with_item q item c.queues))) (is_empty old.items) old.space_event old.items_event
      (record c { queues = with_item q item c.queues }) h

  get_item_state : (task : TaskNo) (q : QueueNo) (items : List Value) (c : Rig) → P c.sim → P (gets_item task q items c).rig.sim
  get_item_state task q [] c h = h
  get_item_state task q (item ∷ items) c h =
      let old : TaskQueue = queue_at q c.queues in
      flags_state (is_empty items) (has_no_room old) old.items_event old.space_event (record c { queues = with_items q items c.queues }) h

-- ---- writes

module _ (setup : Setup) (sound : IsSoundSetup setup) where
  abbrev Wide : Rig → Type 0
  Wide c = IsWide (widths setup.flat.signals) c.sim

  abbrev AreWrites : List Staged → Type 0
  AreWrites [] = Unit {0}
  AreWrites (w ∷ more) = IsAct (widths setup.flat.signals) w.sig w.act × AreWrites more

  put_state : (e : Event) (c : Rig) → IsWide (widths setup.flat.signals) e.state → Wide (after_put setup e c).rig
  put_state e c h = keys_state (IsWide (widths setup.flat.signals)) e.fired c.fired _ h

  written_wide : (s : State) (keys : Keys) (sig : SigId) (act : Write) → IsAct (widths setup.flat.signals) sig act → IsWide (widths setup.flat.signals) s
      → IsWide (widths setup.flat.signals) (written setup s keys sig act).state
  written_wide s keys sig (write.Plain bits) k h = put_wide (widths setup.flat.signals) (procs setup) s keys sig bits h k
  written_wide s keys sig (write.Force bits) k h = force_wide (widths setup.flat.signals) (procs setup) s keys sig bits h k
  written_wide s keys sig write.Freeze k h =
      force_wide (widths setup.flat.signals) (procs setup) s keys sig (value_at s sig) h (shown_write (widths setup.flat.signals) s sig h k)
  written_wide s keys sig write.Release k h = release_wide (widths setup.flat.signals) (procs setup) (nets setup) s keys sig h k

  deposit_wide : (sig : SigId) (act : Write) (c : Rig) → IsAct (widths setup.flat.signals) sig act → Wide c → Wide (deposit setup sig act c).rig
  deposit_wide sig act c k h =
      put_state (written setup c.sim (set_of (awaited c)) sig act) c (written_wide c.sim (set_of (awaited c)) sig act k h)

  flushed_wide : (writes : List Staged) (c : Rig) → AreWrites writes → Wide c → Wide (flushed setup writes c).rig
  flushed_wide [] c k h = h
  flushed_wide (w ∷ more) c k h =
      flushed_wide more (deposit setup w.sig w.act (record c { staged = more })).rig k.1 (deposit_wide w.sig w.act (record c { staged = more }) k.0 h)

  flush_wide : (b : Bool) (c : Rig) → AreWrites c.staged → Wide c → Wide (flushed_if setup b c).rig
  flush_wide true c k h = flushed_wide c.staged c k h
  flush_wide false c k h = h

  serve_wide : (keys : List Key) (c : Rig) → AreWrites c.staged → Wide c → Wide (serve setup keys c).rig
  serve_wide keys c k h =
      let d : Rig = (flushed_if setup (among ReadWrite keys) (with_fired keys c)).rig in
      ended_if_state (IsWide (widths setup.flat.signals)) (is_due keys c.deadline) (served keys c.fired d).rig
      (keys_state (IsWide (widths setup.flat.signals)) keys c.fired d (flush_wide (among ReadWrite keys) (with_fired keys c) k h))

  -- what the view knows of a write is so of the design
  inside_fits : (c : Rig) (s : ℕ) → Wide c → s < length c.sim.signals → s < length (widths setup.flat.signals)
  inside_fits c s h inside =
      let l : length (widths setup.flat.signals) ≡ length c.sim.signals = ap length (sym h.signals) ∙ length_widths c.sim.signals in omega (arith, inside)

  digits_fit : (c : Rig) (s n : ℕ) → Wide c → s < length c.sim.signals → n ≡ length (get_or c.sim.signals s []) → IsWrite (widths setup.flat.signals) s n
  digits_fit c s n h inside e =
      (inside_fits c s h inside, e ∙ sym (get_or_widths c.sim.signals s [] inside) ∙ ap (λ (xs : List ℕ). get_or xs s 0) h.signals)

  write_fits : (c : Rig) (sig : SigId) (act : Write) → Wide c → KnowsWrite (view_of setup c) sig act → IsAct (widths setup.flat.signals) sig act
  write_fits c sig (write.Plain bits) h k = digits_fit c sig.0 (length bits) h k.signal.0 k.digits
  write_fits c sig (write.Force bits) h k = digits_fit c sig.0 (length bits) h k.signal.0 k.digits
  write_fits c sig write.Freeze h k = inside_fits c sig.0 h k.signal.0
  write_fits c sig write.Release h k = inside_fits c sig.0 h k.signal.0

  writes_fit : (c : Rig) (writes : List Staged) → Wide c → KnowsStaged (view_of setup c) writes → AreWrites writes
  writes_fit c [] h k = tt
  writes_fit c (w ∷ more) h k = (write_fits c w.sig w.act h k.0, writes_fit c more h k.1)

  -- ---- effects

  effect_wide : (task : TaskNo) (t : Turned) (c : Rig) → KnowsTurned setup.functions (view_of setup c) t → Wide c → Wide (effect setup task t c).rig
  effect_wide task (turned.Await trig) c k h = awaits_state (IsWide (widths setup.flat.signals)) task (tree_of trig c.sim.time) (check trig c.sim.time c.sim.region) c h
  effect_wide task (turned.Stage sig act) c k h = write_state (IsWide (widths setup.flat.signals)) (is_end c.sim.region) sig (stages task sig act c) c h h
  effect_wide task (turned.Put sig act) c k h =
      write_state (IsWide (widths setup.flat.signals)) (is_end c.sim.region) sig (puts setup task sig act c) c h
      (deposit_wide sig act c (write_fits c sig act h k) h)
  effect_wide task (turned.Start func args give_way) c k h =
      starts_state (IsWide (widths setup.flat.signals)) (is_full c) task (function_at setup.functions func) args give_way c h
  effect_wide task (turned.Kill other) c k h = kills_state (IsWide (widths setup.flat.signals)) (other.0 == task.0) task other c h
  effect_wide task turned.NewEvent c k h = event_state (IsWide (widths setup.flat.signals)) (nat_le event_limit (length c.objects.events)) task c h
  effect_wide task (turned.SetEvent e) c k h = h
  effect_wide task (turned.ClearEvent e) c k h = h
  effect_wide task turned.NewLock c k h = lock_state (IsWide (widths setup.flat.signals)) (nat_le lock_limit (length c.objects.locks)) task c h
  effect_wide task (turned.Release l) c k h = release_state (IsWide (widths setup.flat.signals)) (is_held l c.objects) task l c h
  effect_wide task (turned.NewQueue bound) c k h = queue_state (IsWide (widths setup.flat.signals)) (nat_lt event_limit (length c.objects.events + 2)) task bound c h
  effect_wide task (turned.PutNow q item) c k h = put_item_state (IsWide (widths setup.flat.signals)) (has_no_room (queue_at q c.queues)) (is_at_limit (queue_at q c.queues)) task q item c h
  effect_wide task (turned.GetNow q) c k h = get_item_state (IsWide (widths setup.flat.signals)) task q (queue_at q c.queues).items c h
  effect_wide task (turned.Draw low span) c k h = h
  effect_wide task (turned.Log level text) c k h = h
  effect_wide task (turned.Done v) c k h = h
  effect_wide task (turned.Raised fault) c k h = fails_state (IsWide (widths setup.flat.signals)) (is_joined task c.waiting) task fault c h
  effect_wide task turned.Spent c k h = h

  wish_wide : (task : TaskNo) (o : Option Turned) (c : Rig) → IfSome o (KnowsTurned setup.functions (view_of setup c)) → Wide c → Wide (effect_of setup task o c).rig
  wish_wide task None c k h = h
  wish_wide task (Some t) c k h = effect_wide task t c k h

  -- ---- steps

  stepped_wide : (r : Running) (o : Option Task) (c : Rig) → IsKnown setup c → IfSome o (KnowsWhole setup.functions (view_of setup c))
      → IfSome r.given (KnowsGiven (view_of setup c)) → Wide c → Wide (stepped setup r o c).rig
  stepped_wide r None c k t g h = h
  stepped_wide r (Some task) c k t g h =
      let v : View = view_of setup c in
      let n = next setup.functions task r.given v in
      wish_wide r.task n.turned (kept r.task n.task c) (next_is_known setup.functions task r.given v k.design (events_known setup c k.parts.queues_known) t g).1 h

  after_wide : (o : Option Event) (c : Rig) → IfSome o (Leaves (widths setup.flat.signals)) → IsKnown setup c → Wide c → Wide (after_event setup o c).rig
  after_wide None c e k h = h
  after_wide (Some e) c l k h = serve_wide e.fired (record c { sim = e.state }) (writes_fit c c.staged h k.parts.staged_known) l

  -- what is told of an ended task is known
  joined_known : (v : View) (o : Option Ending) → IfSome o (KnowsEnding v) → KnowsGiven v (joined_given o)
  joined_known v None h = tt
  joined_known v (Some (Returned x)) h = h
  joined_known v (Some (Failed fault)) h = tt
  joined_known v (Some Killed) h = tt

  pub told_known : (c : Rig) (g : Given) → IsKnown setup c → KnowsGiven (view_of setup c) g → KnowsGiven (view_of setup c) (told_given g c.endings)
  told_known c given.Begin k h = tt
  told_known c (given.Value x) k h = h
  told_known c (given.Fault fault) k h = tt
  told_known c (given.Joined task) k h = joined_known (view_of setup c) (ending_of task c.endings) (ending_known (view_of setup c) c.endings task.0 k.parts.endings_known)

  chosen_wide : (running : Option Running) (ready : List Entry) (c : Rig) → c.running ≡ running → c.ready ≡ ready → IsKnown setup c → Wide c
      → Wide (chosen setup running ready c).rig
  chosen_wide (Some r) ready c e s k h =
      stepped_wide r (task_at r.task c.tasks) c k (at_known setup.functions (view_of setup c) r.task c.tasks k.parts.tasks_known)
      (subst (λ (o : Option Running). IfSome o (KnowsRunning (view_of setup c))) e k.parts.running_known) h
  chosen_wide None (x ∷ xs) c e s k h =
      let r : KnowsReady (view_of setup c) (x ∷ xs) = subst (λ (es : List Entry). KnowsReady (view_of setup c) es) s k.parts.ready_known in
      let g : KnowsGiven (view_of setup c) (told_given x.given c.endings) = told_known c x.given k r.0 in
      stepped_wide (taken c x) (task_at x.task c.tasks) (resumed x xs c)
      (record {
        design = k.design;
        top = k.top;
        sound = k.sound;
        parts = record {
          tasks_known = k.parts.tasks_known;
          running_known = g;
          ready_known = r.1;
          waiting_known = k.parts.waiting_known;
          endings_known = k.parts.endings_known;
          staged_known = k.parts.staged_known;
          queues_known = k.parts.queues_known;
          queues_few = k.parts.queues_few;
        };
      })
      (at_known setup.functions (view_of setup c) x.task c.tasks k.parts.tasks_known) g h
  chosen_wide None [] c e s k h =
      after_wide (event_of setup c) c (event_wide (widths setup.flat.signals) setup.flat.processes c.sim (set_of (awaited c)) sound.design.bodies h) k h

  rig_wide : (c : Rig) → IsKnown setup c → Wide c → Wide (rig_step setup c).rig
  rig_wide c k h = chosen_wide c.running c.ready c refl refl k h

  -- ---- runs

  begun_wide : (cases : List Case) (c : Run) → Wide c.rig → Wide (begun setup cases c).rig
  begun_wide [] c h = h
  begun_wide (case ∷ cases) c h = test_state (IsWide (widths setup.flat.signals)) setup case (values_of case.arguments) c.rig h

  planned_wide : (cases : List Case) (c : Run) → Wide c.rig → Wide (planned cases c).rig
  planned_wide [] c h = h
  planned_wide (case ∷ cases) c h = h

  in_wide : (case : Case) (cases : List Case) (o : Option Outcome) (c : Run) → IsKnown setup c.rig → Wide c.rig → Wide (step_in setup case cases o c).rig
  in_wide case cases (Some outcome) c k h =
      planned_wide (unskipped cases) (with_skips (skipped cases) (judged (reason_of setup.flat case outcome) case c)) h
  in_wide case cases None c k h = rig_wide c.rig k h

  at_wide : (p : Place) (c : Run) → IsKnown setup c.rig → Wide c.rig → Wide (step_at setup p c).rig
  at_wide (Begins cases) c k h = begun_wide (unskipped cases) (with_skips (skipped cases) c) h
  at_wide (Runs case cases) c k h = in_wide case cases c.rig.outcome c k h
  at_wide (Waits cases) c k h = rig_wide c.rig k h
  at_wide Over c k h = h

  -- ---- the opening configuration

  count_widths : (ss : List Signal) → length (widths ss) ≡ length ss
  count_widths [] = refl
  count_widths (s ∷ ss) = ap suc (count_widths ss)

  -- nothing of a test is left, and the simulator has a value for each signal of the design
  empty_known : (state : State) (random : Generator) (counts : Counts) → IsWide (widths setup.flat.signals) state → IsKnown setup (emptied state random counts)
  empty_known state random counts h =
      let c : Rig = emptied state random counts in
      let root : 0 < length setup.flat.nodes = sound.design.tree.root in
      let of : IsOf setup.flat setup.flat.nodes state = record {
        sound = sound.design;
        nodes_are = refl;
        values = sym (length_widths state.signals) ∙ ap length h.signals ∙ count_widths setup.flat.signals;
      } in
      record {
        design = names_known setup.flat setup.flat.nodes state c.objects c.queues c.endings of;
        top = (omega (arith, length-map setup.flat.nodes (λ (n : Node). n.children)), omega (arith, length-map setup.flat.nodes (λ (n : Node). n.path)));
        sound = sound.functions;
        parts = record { tasks_known = tt; running_known = tt; ready_known = tt; waiting_known = tt; endings_known = tt; staged_known = tt; queues_known = tt; queues_few = omega arith };
      }

  start_widths : (ss : List Signal) → widths_of (start_map ss) ≡ widths ss
  start_widths [] = refl
  start_widths (s ∷ ss) = rw (length-replicate s.width s.start, start_widths ss) refl

  start_free : (ss : List Signal) → AreHidden (start_hidden ss) (widths ss)
  start_free [] = tt
  start_free (s ∷ ss) = (tt, start_free ss)

  opening_wide : (seed : ℕ) (cases : List Case) → Wide (opening setup seed cases).rig
  opening_wide seed cases = record { signals = start_widths setup.flat.signals; hidden = start_free setup.flat.signals; due = tt; later = tt; delayed = tt }

  opening_known : (seed : ℕ) (cases : List Case) → IsKnown setup (opening setup seed cases).rig
  opening_known seed cases = empty_known (opening setup seed cases).rig.sim (opening setup seed cases).rig.random no_counts (opening_wide seed cases)

  -- ---- all of them

  pub record Holds (c : Run) : Type 0 where
    pub known : IsKnown setup c.rig
    pub wide : IsWide (widths setup.flat.signals) c.rig.sim

  pub start_holds : (seed : ℕ) (cases : List Case) → Holds (opening setup seed cases)
  start_holds seed cases = record { known = opening_known seed cases; wide = opening_wide seed cases }

  pub step_holds : (c : Run) → Holds c → Holds (step setup c)
  step_holds c h =
      let w : Wide (step setup c).rig = at_wide c.place c h.known h.wide in
      record { known = run_step_known setup c h.known (w.signals ∙ sym h.wide.signals); wide = w }

  reached : (seed : ℕ) (cases : List Case) (run : Run) → IsReached setup seed cases run → Holds run
  reached seed cases run r =
      reached_each setup Holds step_holds seed cases run (start_holds seed cases) r

-- the opening configuration is known
pub start_known : (setup : Setup) (seed : ℕ) (cases : List Case) → IsSoundSetup setup → IsKnown setup (opening setup seed cases).rig
start_known setup seed cases s = opening_known setup s seed cases

pub reached_known : (setup : Setup) (seed : ℕ) (cases : List Case) (run : Run) → IsSoundSetup setup → IsReached setup seed cases run → IsKnown setup run.rig
reached_known setup seed cases run s r = (reached setup s seed cases run r).known

pub reached_wide : (setup : Setup) (seed : ℕ) (cases : List Case) (run : Run) → IsSoundSetup setup → IsReached setup seed cases run
    → widths_of run.rig.sim.signals ≡ widths setup.flat.signals
reached_wide setup seed cases run s r = (reached setup s seed cases run r).wide.signals

-- Steps keep what is known of a configuration.
use Rattle.std.proofs.Common.{◌≡◌, ℕ, zero, suc, ◌+◌, ◌<◌, ◌≤◌, Bool, true, false, List, [], ◌∷◌, ◌++◌, length, map, Option, None, Some, refl, ap, sym, subst, arith, length-append}
use Rattle.std.specs.Prelude.{◌==◌, nat_le, nat_lt, is_some, IfSome, slice_set, not}
use Rattle.gpi.specs.State.{is_end}
use Rattle.gpi.specs.Keys.{among, set_of}
use Rattle.gpi.specs.Events.{Event}
use Rattle.gpi.specs.declared.types.Key.{Key}
use Rattle.gpi.specs.declared.types.Key.TheVariants.{ReadWrite}
use Rattle.gpi.specs.declared.types.SigId.{SigId}
use Rattle.gpi.specs.declared.types.Write.{Write}
use Rattle.py_value.specs.declared.trigger.TaskNo.{TaskNo}
use Rattle.py_value.specs.declared.trigger.EventNo.{EventNo}
use Rattle.py_value.specs.declared.trigger.LockNo.{LockNo}
use Rattle.py_value.specs.declared.trigger.QueueNo.{QueueNo}
use Rattle.py_value.specs.declared.value.Value.{Value}
use Rattle.py_value.specs.declared.value.Value.TheVariants as value
use Rattle.py_value.specs.declared.value.Fault.{Fault}
use Rattle.py_evaluate.specs.Attribute.Look.{View}
use Rattle.py_evaluate.specs.Attribute.Knows.{Knows, KnowsAll}
use Rattle.await_tree.specs.declared.cause.Cause.{Cause}
use Rattle.await_tree.specs.declared.cause.Cause.TheVariants as cause
use Rattle.await_tree.specs.declared.cause.Given.{Given}
use Rattle.await_tree.specs.declared.cause.Given.TheVariants as given
use Rattle.await_tree.specs.declared.cause.Step.{Step}
use Rattle.await_tree.specs.declared.cause.Step.TheVariants.{Still, Done}
use Rattle.await_tree.specs.Tree.{Tree}
use Rattle.await_tree.specs.Begin.{begin}
use Rattle.await_tree.specs.Steps.{step_of}
use Rattle.await_tree.specs.Check.{tree_of, check}
use Rattle.await_tree.specs.EndedTasks.Endings.{is_done, ending_of, joined_given, told_given}
use Rattle.await_tree.specs.SyncObjects.States.{with_set, is_held, event_limit, lock_limit}
use Rattle.task_queue.specs.Queues.{TaskQueue, fresh as empty_queue, queue_at, is_full as has_no_room, is_at_limit, is_empty, holding, with_items, with_item}
use Rattle.run_view.specs.View.{seen}
use Rattle.run_view.specs.declared.signal_port.staged.Staged.{Staged}
use Rattle.run_view.specs.SignalPort.Staging.{restaged}
use Rattle.test_meaning.specs.Body.BodyTrees.{Function}
use Rattle.rig_model.specs.Task.Frame.{Task, fresh, function_at}
use Rattle.rig_model.specs.Task.Step.{next}
use Rattle.rig_model.specs.Task.Known.{AreSoundFunctions, KnowsWhole, KnowsGiven, KnowsWrite, KnowsTurned}
use Rattle.rig_model.specs.declared.task.task.Turned.{Turned}
use Rattle.rig_model.specs.declared.task.task.Turned.TheVariants as turned
use Rattle.rig_model.proofs.TaskLemmas.StepKnown.{entered_frame, next_is_known}
use Rattle.await_tree.specs.declared.wait_list.ready.Entry.{Entry}
use Rattle.await_tree.specs.WaitList.Waiting.{is_wanted, is_joined, granted, woken}
use Rattle.await_tree.specs.declared.ended_tasks.ending.Ending.{Ending}
use Rattle.await_tree.specs.declared.ended_tasks.ending.Ending.TheVariants.{Returned, Failed, Killed}
use Rattle.rig_model.specs.Run.Rig.{Rig, Setup, Running, After, event_of, view_of, facts_of, awaited, procs}
use Rattle.rig_model.specs.Run.Serve.{wake, serve_keys, with_fired, after_put, written, deposit, flushed, flushed_if, served, ended_if, is_due, serve}
use Rattle.rig_model.specs.Run.Effect.{goes_on, begun_by, awaits_by, write_by, stages, puts, starts, starter, next_task, with_new_task, is_full, is_numbered, with_end, ends, fails, withdrawn, kills_by, kills, makes_event, makes_lock, releases, handed_on, new_event, second_event, with_new_queue, makes_queue, sets_if, clears_if, with_put, puts_item, with_get, gets_item, effect, effect_of}
use Rattle.rig_model.specs.Run.Step.{task_at, taken, stepped, kept, after_event, resumed, chosen, rig_step}
use Rattle.rig_model.specs.Run.Known.{KnowsTree, KnowsParts, KnowsRunning, KnowsReady, KnowsEnding, KnowsStaged, IsKnown, AreAsWide}
use Rattle.rig_model.proofs.RunLemmas.Wider.{Wider, node_wider, design_wider, whole_wider, turned_wider, parts_wider}
use Rattle.rig_model.proofs.RunLemmas.Trees.{KnowsStep, tree_known, begin_known, begin_length, step_known}
use Rattle.rig_model.proofs.RunLemmas.Lists.{tasks_more, tasks_filtered, tasks_stored, at_known, ready_more, ready_without, waiting_more, waiting_without, woken_known, still_known, granted_known, endings_more, endings_set, ending_known, restaged_known, queues_more, items_more, queue_items_known, with_items_known, events_known}

-- ---- how much was made

-- each event, lock, task and queue of the first is one of the second
abbrev pub Grows : Rig → Rig → Type 0
Grows c d =
    (length c.objects.events ≤ length d.objects.events) × (length c.objects.locks ≤ length d.objects.locks) × (length c.endings ≤ length d.endings)
    × (length c.queues ≤ length d.queues)

-- the view has room for all that was made
abbrev Covers : View → Rig → Type 0
Covers v d =
    (length d.objects.events ≤ length v.events) × (length d.objects.locks ≤ length v.locks) × (length d.endings ≤ length v.ended)
    × (length d.queues ≤ length v.queues)

set_length : {A : Type 0} → (xs : List A) (n : ℕ) (x : A) → length (slice_set xs n x) ≡ length xs
set_length [] n x = refl
set_length (y ∷ ys) zero x = refl
set_length (y ∷ ys) (suc n) x = ap suc (set_length ys n x)

same_grows : (c : Rig) → Grows c c
same_grows c = (omega arith, omega arith, omega arith, omega arith)

serve_keys_grows : (keys others : List Key) (c : Rig) → Grows c (serve_keys keys others c)
serve_keys_grows [] others c = same_grows c
serve_keys_grows (k ∷ ks) others c = serve_keys_grows ks others (record (wake (cause.Key k) c) { fired = others ++ ks })

put_grows : (setup : Setup) (e : Event) (c : Rig) → Grows c (after_put setup e c).rig
put_grows setup e c = serve_keys_grows e.fired c.fired (with_fired e.fired (record c { sim = e.state }))

deposit_grows : (setup : Setup) (sig : SigId) (act : Write) (c : Rig) → Grows c (deposit setup sig act c).rig
deposit_grows setup sig act c = put_grows setup (written setup c.sim (set_of (awaited c)) sig act) c

through : (b c d : Rig) → Grows b c → Grows c d → Grows b d
through b c d g h = (omega (arith, g.0, h.0), omega (arith, g.1, h.1), omega (arith, g.2, h.2), omega (arith, g.3, h.3))

flushed_grows : (setup : Setup) (writes : List Staged) (c : Rig) → Grows c (flushed setup writes c).rig
flushed_grows setup [] c = same_grows c
flushed_grows setup (w ∷ ws) c =
    let d : Rig = (deposit setup w.sig w.act (record c { staged = ws })).rig in
    through c d (flushed setup ws d).rig (deposit_grows setup w.sig w.act (record c { staged = ws })) (flushed_grows setup ws d)

flush_grows : (setup : Setup) (b : Bool) (c : Rig) → Grows c (flushed_if setup b c).rig
flush_grows setup true c = flushed_grows setup c.staged c
flush_grows setup false c = same_grows c

ended_if_grows : (b : Bool) (c : Rig) → Grows c (ended_if b c).rig
ended_if_grows true c = same_grows c
ended_if_grows false c = same_grows c

serve_grows : (setup : Setup) (keys : List Key) (c : Rig) → Grows c (serve setup keys c).rig
serve_grows setup keys c =
    let d : Rig = (flushed_if setup (among ReadWrite keys) (with_fired keys c)).rig in
    let e : Rig = (served keys c.fired d).rig in
    through c e (ended_if (is_due keys c.deadline) e).rig
    (through c d e (flush_grows setup (among ReadWrite keys) (with_fired keys c)) (serve_keys_grows keys c.fired d))
    (ended_if_grows (is_due keys c.deadline) e)

begun_grows : (task : TaskNo) (tree : Tree) (s : Step) (c : Rig) → Grows c (begun_by task tree s c).rig
begun_grows task tree (Done g) c = same_grows c
begun_grows task tree Still c = same_grows c

awaits_grows : (task : TaskNo) (tree : Tree) (o : Option Fault) (c : Rig) → Grows c (awaits_by task tree o c).rig
awaits_grows task tree (Some fault) c = same_grows c
awaits_grows task tree None c =
    let b = begin tree (facts_of c) in
    let d : Rig = record c { objects = record c.objects { locks = b.facts.locks } } in
    let l : length b.facts.locks ≡ length c.objects.locks = begin_length tree (facts_of c) in
    through c d (begun_by task b.tree (step_of b.tree) d).rig (omega arith, omega arith, omega arith, omega arith) (begun_grows task b.tree (step_of b.tree) d)

write_grows : (b : Bool) (sig : SigId) (a : After) (c : Rig) → Grows c a.rig → Grows c (write_by b sig a c).rig
write_grows true sig a c h = same_grows c
write_grows false sig a c h = h

starter_grows : (task number : TaskNo) (b : Bool) (c : Rig) → Grows c (starter task number b c).rig
starter_grows task number true c = same_grows c
starter_grows task number false c = same_grows c

more_length : {A : Type 0} → (xs : List A) (x : A) → length (xs ++ x ∷ []) ≡ length xs + 1
more_length xs x = length-append xs (x ∷ [])

pub new_grows : (function : Function) (args : List Value) (c : Rig) → Grows c (with_new_task function args c)
new_grows function args c =
    let n : length (c.endings ++ None ∷ []) ≡ length c.endings + 1 = more_length c.endings None in (omega arith, omega arith, omega arith, omega arith)

starts_grows : (full : Bool) (task : TaskNo) (function : Function) (args : List Value) (b : Bool) (c : Rig) → Grows c (starts full task function args b c).rig
starts_grows true task function args b c = same_grows c
starts_grows false task function args b c =
    through c (with_new_task function args c) (starter task (next_task c) b (with_new_task function args c)).rig
    (new_grows function args c) (starter_grows task (next_task c) b (with_new_task function args c))

end_grows : (task : TaskNo) (ending : Ending) (c : Rig) → Grows c (with_end task ending c)
end_grows task ending c = let n : length (slice_set c.endings task.0 (Some ending)) ≡ length c.endings = set_length c.endings task.0 (Some ending) in (omega arith, omega arith, omega arith, omega arith)

fails_grows : (b : Bool) (task : TaskNo) (fault : Fault) (c : Rig) → Grows c (fails b task fault c).rig
fails_grows true task fault c = end_grows task (Failed fault) c
fails_grows false task fault c = end_grows task (Failed fault) c

kill_grows : (b : Bool) (other : TaskNo) (c : Rig) → Grows c (kills_by b other c)
kill_grows true other c = same_grows c
kill_grows false other c = end_grows other Killed (withdrawn other c)

kills_grows : (b : Bool) (task other : TaskNo) (c : Rig) → Grows c (kills b task other c).rig
kills_grows true task other c = same_grows c
kills_grows false task other c = kill_grows (is_done other c.endings) other c

event_grows : (b : Bool) (task : TaskNo) (c : Rig) → Grows c (makes_event b task c).rig
event_grows true task c = same_grows c
event_grows false task c = let n : length (c.objects.events ++ false ∷ []) ≡ length c.objects.events + 1 = more_length c.objects.events false in (omega arith, omega arith, omega arith, omega arith)

lock_grows : (b : Bool) (task : TaskNo) (c : Rig) → Grows c (makes_lock b task c).rig
lock_grows true task c = same_grows c
lock_grows false task c = let n : length (c.objects.locks ++ false ∷ []) ≡ length c.objects.locks + 1 = more_length c.objects.locks false in (omega arith, omega arith, omega arith, omega arith)

handed_grows : (b : Bool) (l : LockNo) (c : Rig) → Grows c (handed_on b l c)
handed_grows true l c = same_grows c
handed_grows false l c = let n : length (slice_set c.objects.locks l.0 false) ≡ length c.objects.locks = set_length c.objects.locks l.0 false in (omega arith, omega arith, omega arith, omega arith)

release_grows : (b : Bool) (task : TaskNo) (l : LockNo) (c : Rig) → Grows c (releases b task l c).rig
release_grows true task l c = handed_grows (is_wanted l c.waiting) l c
release_grows false task l c = same_grows c

flag_grows : (n : ℕ) (b : Bool) (c : Rig) → Grows c (record c { objects = record c.objects { events = slice_set c.objects.events n b } })
flag_grows n b c = let l : length (slice_set c.objects.events n b) ≡ length c.objects.events = set_length c.objects.events n b in (omega arith, omega arith, omega arith, omega arith)

-- a new queue has two events
new_queue_grows : (bound : ℕ) (c : Rig) → Grows c (with_new_queue bound c)
new_queue_grows bound c =
    let events : List Bool = (c.objects.events ++ false ∷ []) ++ false ∷ [] in
    let l : length (slice_set events (suc (length c.objects.events)) true) ≡ length events = set_length events (suc (length c.objects.events)) true in
    let m : length events ≡ length (c.objects.events ++ false ∷ []) + 1 = more_length (c.objects.events ++ false ∷ []) false in
    let n : length (c.objects.events ++ false ∷ []) ≡ length c.objects.events + 1 = more_length c.objects.events false in
    let q : length (with_new_queue bound c).queues ≡ length c.queues + 1 = more_length c.queues (empty_queue bound (new_event c) (second_event c)) in
    (omega arith, omega arith, omega arith, omega arith)

queue_grows : (b : Bool) (task : TaskNo) (bound : ℕ) (c : Rig) → Grows c (makes_queue b task bound c).rig
queue_grows true task bound c = same_grows c
queue_grows false task bound c = new_queue_grows bound c

sets_if_grows : (b : Bool) (e : EventNo) (c : Rig) → Grows c (sets_if b e c)
sets_if_grows true e c = flag_grows e.0 true c
sets_if_grows false e c = same_grows c

clears_if_grows : (b : Bool) (e : EventNo) (c : Rig) → Grows c (clears_if b e c)
clears_if_grows true e c = flag_grows e.0 false c
clears_if_grows false e c = same_grows c

items_grow : (q : QueueNo) (items : List Value) (c : Rig) → Grows c (record c { queues = with_items q items c.queues })
items_grow q items c =
    let l : length (with_items q items c.queues) ≡ length c.queues = set_length c.queues q.0 (holding items (queue_at q c.queues)) in
    (omega arith, omega arith, omega arith, omega arith)

-- the one event may be set, and then the other cleared
flags_grow : (a b : Bool) (x y : EventNo) (q : QueueNo) (items : List Value) (c : Rig)
    → Grows c (clears_if a x (sets_if b y (record c { queues = with_items q items c.queues })))
flags_grow a b x y q items c =
    let d : Rig = record c { queues = with_items q items c.queues } in
    through c (sets_if b y d) (clears_if a x (sets_if b y d)) (through c d (sets_if b y d) (items_grow q items c) (sets_if_grows b y d)) (clears_if_grows a x (sets_if b y d))

put_item_grows : (full limit : Bool) (task : TaskNo) (q : QueueNo) (item : Value) (c : Rig) → Grows c (puts_item full limit task q item c).rig
put_item_grows true limit task q item c = same_grows c
put_item_grows false true task q item c = same_grows c
put_item_grows false false task q item c =
    let old : TaskQueue = queue_at q c.queues in
    flags_grow (has_no_room (queue_at q (with_item q item c.queues))) (is_empty old.items) old.space_event old.items_event q (old.items ++ item ∷ []) c

get_item_grows : (task : TaskNo) (q : QueueNo) (items : List Value) (c : Rig) → Grows c (gets_item task q items c).rig
get_item_grows task q [] c = same_grows c
get_item_grows task q (item ∷ items) c =
    let old : TaskQueue = queue_at q c.queues in
    flags_grow (is_empty items) (has_no_room old) old.items_event old.space_event q items c

effect_grows : (setup : Setup) (task : TaskNo) (t : Turned) (c : Rig) → Grows c (effect setup task t c).rig
effect_grows setup task (turned.Await trig) c = awaits_grows task (tree_of trig c.sim.time) (check trig c.sim.time c.sim.region) c
effect_grows setup task (turned.Stage sig act) c = write_grows (is_end c.sim.region) sig (stages task sig act c) c (same_grows c)
effect_grows setup task (turned.Put sig act) c = write_grows (is_end c.sim.region) sig (puts setup task sig act c) c (deposit_grows setup sig act c)
effect_grows setup task (turned.Start func args give_way) c = starts_grows (is_full c) task (function_at setup.functions func) args give_way c
effect_grows setup task (turned.Kill other) c = kills_grows (other.0 == task.0) task other c
effect_grows setup task turned.NewEvent c = event_grows (nat_le event_limit (length c.objects.events)) task c
effect_grows setup task (turned.SetEvent e) c = flag_grows e.0 true c
effect_grows setup task (turned.ClearEvent e) c = flag_grows e.0 false c
effect_grows setup task turned.NewLock c = lock_grows (nat_le lock_limit (length c.objects.locks)) task c
effect_grows setup task (turned.Release l) c = release_grows (is_held l c.objects) task l c
effect_grows setup task (turned.NewQueue bound) c = queue_grows (nat_lt event_limit (length c.objects.events + 2)) task bound c
effect_grows setup task (turned.PutNow q item) c = put_item_grows (has_no_room (queue_at q c.queues)) (is_at_limit (queue_at q c.queues)) task q item c
effect_grows setup task (turned.GetNow q) c = get_item_grows task q (queue_at q c.queues).items c
effect_grows setup task (turned.Draw low span) c = same_grows c
effect_grows setup task (turned.Log level text) c = same_grows c
effect_grows setup task (turned.Done x) c = end_grows task (Returned x) c
effect_grows setup task (turned.Raised fault) c = fails_grows (is_joined task c.waiting) task fault c
effect_grows setup task turned.Spent c = same_grows c

wish_grows : (setup : Setup) (task : TaskNo) (o : Option Turned) (c : Rig) → Grows c (effect_of setup task o c).rig
wish_grows setup task None c = same_grows c
wish_grows setup task (Some t) c = effect_grows setup task t c

stepped_grows : (setup : Setup) (r : Running) (o : Option Task) (c : Rig) → Grows c (stepped setup r o c).rig
stepped_grows setup r None c = same_grows c
stepped_grows setup r (Some task) c =
    wish_grows setup r.task (next setup.functions task r.given (view_of setup c)).turned (kept r.task (next setup.functions task r.given (view_of setup c)).task c)

event_step_grows : (setup : Setup) (o : Option Event) (c : Rig) → Grows c (after_event setup o c).rig
event_step_grows setup None c = same_grows c
event_step_grows setup (Some e) c = serve_grows setup e.fired (record c { sim = e.state })

chosen_grows : (setup : Setup) (running : Option Running) (ready : List Entry) (c : Rig) → Grows c (chosen setup running ready c).rig
chosen_grows setup (Some r) ready c = stepped_grows setup r (task_at r.task c.tasks) c
chosen_grows setup None (e ∷ es) c = stepped_grows setup (taken c e) (task_at e.task c.tasks) (resumed e es c)
chosen_grows setup None [] c = event_step_grows setup (event_of setup c) c

-- ---- serving

module _ (functions : List Function) (v : View) where
  abbrev Parts : Rig → Type 0
  Parts c = KnowsParts functions v c

  wake_parts : (on : Cause) (c : Rig) → Parts c → Parts (wake on c)
  wake_parts on c h = record {
    tasks_known = h.tasks_known;
    running_known = h.running_known;
    endings_known = h.endings_known;
    staged_known = h.staged_known;
    queues_known = h.queues_known;
    queues_few = h.queues_few;
    ready_known = ready_more v c.ready (woken on c.waiting) h.ready_known (woken_known v on c.waiting h.waiting_known);
    waiting_known = still_known v on c.waiting h.waiting_known;
  }

  serve_keys_parts : (keys others : List Key) (c : Rig) → Parts c → Parts (serve_keys keys others c)
  serve_keys_parts [] others c h = h
  serve_keys_parts (k ∷ ks) others c h = serve_keys_parts ks others (record (wake (cause.Key k) c) { fired = others ++ ks }) (wake_parts (cause.Key k) c h)

  put_parts : (setup : Setup) (e : Event) (c : Rig) → Parts c → Parts (after_put setup e c).rig
  put_parts setup e c h = serve_keys_parts e.fired c.fired (with_fired e.fired (record c { sim = e.state })) h

  deposit_parts : (setup : Setup) (sig : SigId) (act : Write) (c : Rig) → Parts c → Parts (deposit setup sig act c).rig
  deposit_parts setup sig act c h = put_parts setup (written setup c.sim (set_of (awaited c)) sig act) c h

  unstaged : (ws : List Staged) (c : Rig) → KnowsStaged v ws → Parts c → Parts (record c { staged = ws })
  unstaged ws c k h = record {
    tasks_known = h.tasks_known;
    running_known = h.running_known;
    ready_known = h.ready_known;
    waiting_known = h.waiting_known;
    endings_known = h.endings_known;
    staged_known = k;
    queues_known = h.queues_known;
    queues_few = h.queues_few;
  }

  flushed_parts : (setup : Setup) (writes : List Staged) (c : Rig) → KnowsStaged v writes → Parts c → Parts (flushed setup writes c).rig
  flushed_parts setup [] c k h = h
  flushed_parts setup (w ∷ ws) c k h =
      flushed_parts setup ws (deposit setup w.sig w.act (record c { staged = ws })).rig k.1
      (deposit_parts setup w.sig w.act (record c { staged = ws }) (unstaged ws c k.1 h))

  flush_parts : (setup : Setup) (b : Bool) (c : Rig) → Parts c → Parts (flushed_if setup b c).rig
  flush_parts setup true c h = flushed_parts setup c.staged c h.staged_known h
  flush_parts setup false c h = h

  ended_if_parts : (b : Bool) (c : Rig) → Parts c → Parts (ended_if b c).rig
  ended_if_parts true c h = h
  ended_if_parts false c h = h

  serve_parts : (setup : Setup) (keys : List Key) (c : Rig) → Parts c → Parts (serve setup keys c).rig
  serve_parts setup keys c h =
      let d : Rig = (flushed_if setup (among ReadWrite keys) (with_fired keys c)).rig in
      ended_if_parts (is_due keys c.deadline) (served keys c.fired d).rig
      (serve_keys_parts keys c.fired d (flush_parts setup (among ReadWrite keys) (with_fired keys c) h))

  -- ---- effects

  with_turn : (task : TaskNo) (g : Option Given) (c : Rig) → IfSome g (KnowsGiven v) → Parts c → Parts (goes_on task g c)
  with_turn task g c k h = record {
    tasks_known = h.tasks_known;
    running_known = k;
    ready_known = h.ready_known;
    waiting_known = h.waiting_known;
    endings_known = h.endings_known;
    staged_known = h.staged_known;
    queues_known = h.queues_known;
    queues_few = h.queues_few;
  }

  ended_known : (o : Option Ending) → IfSome o (KnowsEnding v) → KnowsGiven v (joined_given o)
  ended_known None h = tt
  ended_known (Some (Returned x)) h = h
  ended_known (Some (Failed fault)) h = tt
  ended_known (Some Killed) h = tt

  told_known : (c : Rig) (g : Given) → Parts c → KnowsGiven v g → KnowsGiven v (told_given g c.endings)
  told_known c given.Begin h k = tt
  told_known c (given.Value x) h k = k
  told_known c (given.Fault fault) h k = tt
  told_known c (given.Joined task) h k = ended_known (ending_of task c.endings) (ending_known v c.endings task.0 h.endings_known)

  begun_parts : (task : TaskNo) (tree : Tree) (s : Step) (c : Rig) → KnowsTree v tree → KnowsStep v s → Parts c → Parts (begun_by task tree s c).rig
  begun_parts task tree (Done g) c t k h = with_turn task (Some (told_given g c.endings)) c (told_known c g h k) h
  begun_parts task tree Still c t k h = record {
    tasks_known = h.tasks_known;
    running_known = h.running_known;
    ready_known = h.ready_known;
    waiting_known = waiting_more v c.waiting (record { task = task; tree = tree } ∷ []) h.waiting_known (t, tt);
    endings_known = h.endings_known;
    staged_known = h.staged_known;
    queues_known = h.queues_known;
    queues_few = h.queues_few;
  }

  awaits_parts : (task : TaskNo) (tree : Tree) (o : Option Fault) (c : Rig) → KnowsTree v tree → Parts c → Parts (awaits_by task tree o c).rig
  awaits_parts task tree (Some fault) c t h = with_turn task (Some (given.Fault fault)) c tt h
  awaits_parts task tree None c t h =
      let b = begin tree (facts_of c) in
      let k : KnowsTree v b.tree = begin_known v tree (facts_of c) t in
      begun_parts task b.tree (step_of b.tree) (record c { objects = record c.objects { locks = b.facts.locks } }) k (step_known v b.tree k) h

  write_parts : (b : Bool) (sig : SigId) (a : After) (c : Rig) → Parts a.rig → Parts c → Parts (write_by b sig a c).rig
  write_parts true sig a c k h = h
  write_parts false sig a c k h = k

  absent : (task : TaskNo) (c : Rig) → Parts c → Parts (goes_on task (Some (given.Value value.Absent)) c)
  absent task c h = with_turn task (Some (given.Value value.Absent)) c tt h

  stages_parts : (task : TaskNo) (sig : SigId) (act : Write) (c : Rig) → KnowsWrite v sig act → Parts c → Parts (stages task sig act c).rig
  stages_parts task sig act c k h =
      absent task (record c { staged = restaged sig act c.staged }) (unstaged (restaged sig act c.staged) c (restaged_known v sig act c.staged h.staged_known k) h)

  pub new_parts : (n : ℕ) (args : List Value) (c : Rig) → AreSoundFunctions functions → KnowsAll v args → Parts c → Parts (with_new_task (function_at functions n) args c)
  new_parts n args c s k h = record {
    tasks_known = tasks_more functions v c.tasks (fresh (next_task c) (function_at functions n) args ∷ []) h.tasks_known
        (record { sound = s; frames = (entered_frame functions v n args s k, tt) }, tt);
    running_known = h.running_known;
    ready_known = ready_more v c.ready (record { task = next_task c; given = given.Begin } ∷ []) h.ready_known (tt, tt);
    waiting_known = h.waiting_known;
    endings_known = endings_more v c.endings (None ∷ []) h.endings_known (tt, tt);
    staged_known = h.staged_known;
    queues_known = h.queues_known;
    queues_few = h.queues_few;
  }

  starter_parts : (task number : TaskNo) (b : Bool) (c : Rig) → number.0 < length v.ended → Parts c → Parts (starter task number b c).rig
  starter_parts task number true c k h = record {
    tasks_known = h.tasks_known;
    running_known = h.running_known;
    ready_known = ready_more v c.ready (record { task = task; given = given.Value (value.Task number) } ∷ []) h.ready_known (k, tt);
    waiting_known = h.waiting_known;
    endings_known = h.endings_known;
    staged_known = h.staged_known;
    queues_known = h.queues_known;
    queues_few = h.queues_few;
  }
  starter_parts task number false c k h = with_turn task (Some (given.Value (value.Task number))) c k h

  -- a new task is covered
  new_covered : (b : Bool) (task : TaskNo) (function : Function) (args : List Value) (c : Rig)
      → Covers v (starter task (next_task c) b (with_new_task function args c)).rig → length c.endings < length v.ended
  new_covered true task function args c k = let n : length (c.endings ++ None ∷ []) ≡ length c.endings + 1 = more_length c.endings None in omega (arith, k.2)
  new_covered false task function args c k = let n : length (c.endings ++ None ∷ []) ≡ length c.endings + 1 = more_length c.endings None in omega (arith, k.2)

  starts_parts : (full : Bool) (task : TaskNo) (n : ℕ) (args : List Value) (b : Bool) (c : Rig) → AreSoundFunctions functions → KnowsAll v args → Parts c
      → Covers v (starts full task (function_at functions n) args b c).rig → Parts (starts full task (function_at functions n) args b c).rig
  starts_parts true task n args b c s k h w = with_turn task (Some (given.Fault _)) c tt h
  starts_parts false task n args b c s k h w =
      starter_parts task (next_task c) b (with_new_task (function_at functions n) args c) (new_covered b task (function_at functions n) args c w) (new_parts n args c s k h)

  end_parts : (task : TaskNo) (ending : Ending) (c : Rig) → KnowsEnding v ending → Parts c → Parts (with_end task ending c)
  end_parts task ending c k h = record {
    tasks_known = tasks_filtered functions v (λ (t : Task). not (is_numbered task t)) c.tasks h.tasks_known;
    running_known = h.running_known;
    ready_known = h.ready_known;
    waiting_known = h.waiting_known;
    endings_known = endings_set v c.endings task.0 ending h.endings_known k;
    staged_known = h.staged_known;
    queues_known = h.queues_known;
    queues_few = h.queues_few;
  }

  ends_parts : (task : TaskNo) (ending : Ending) (failed : Bool) (c : Rig) → KnowsEnding v ending → Parts c → Parts (ends task ending failed c)
  ends_parts task ending failed c k h = wake_parts (cause.Ended task failed) (with_end task ending c) (end_parts task ending c k h)

  fails_parts : (b : Bool) (task : TaskNo) (fault : Fault) (c : Rig) → Parts c → Parts (fails b task fault c).rig
  fails_parts true task fault c h = ends_parts task (Failed fault) true c tt h
  fails_parts false task fault c h = end_parts task (Failed fault) c tt h

  withdrawn_parts : (task : TaskNo) (c : Rig) → Parts c → Parts (withdrawn task c)
  withdrawn_parts task c h = record {
    tasks_known = h.tasks_known;
    running_known = h.running_known;
    ready_known = ready_without v task c.ready h.ready_known;
    waiting_known = waiting_without v task c.waiting h.waiting_known;
    endings_known = h.endings_known;
    staged_known = h.staged_known;
    queues_known = h.queues_known;
    queues_few = h.queues_few;
  }

  kill_parts : (b : Bool) (other : TaskNo) (c : Rig) → Parts c → Parts (kills_by b other c)
  kill_parts true other c h = h
  kill_parts false other c h =
      wake_parts (cause.Ended other false) (with_end other Killed (withdrawn other c)) (end_parts other Killed (withdrawn other c) tt (withdrawn_parts other c h))

  kills_parts : (b : Bool) (task other : TaskNo) (c : Rig) → Parts c → Parts (kills b task other c).rig
  kills_parts true task other c h = with_turn task (Some (given.Fault _)) c tt h
  kills_parts false task other c h =
      absent task (kills_by (is_done other c.endings) other c) (kill_parts (is_done other c.endings) other c h)

  event_parts : (b : Bool) (task : TaskNo) (c : Rig) → Covers v (makes_event b task c).rig → Parts c → Parts (makes_event b task c).rig
  event_parts true task c w h = with_turn task (Some (given.Fault _)) c tt h
  event_parts false task c w h =
      let n : length (c.objects.events ++ false ∷ []) ≡ length c.objects.events + 1 = more_length c.objects.events false in
      with_turn task (Some (given.Value (value.Event (record { 0 = length c.objects.events })))) c (omega (arith, w.0)) h

  lock_parts : (b : Bool) (task : TaskNo) (c : Rig) → Covers v (makes_lock b task c).rig → Parts c → Parts (makes_lock b task c).rig
  lock_parts true task c w h = with_turn task (Some (given.Fault _)) c tt h
  lock_parts false task c w h =
      let n : length (c.objects.locks ++ false ∷ []) ≡ length c.objects.locks + 1 = more_length c.objects.locks false in
      with_turn task (Some (given.Value (value.Lock (record { 0 = length c.objects.locks })))) c (omega (arith, w.1)) h

  handed_parts : (b : Bool) (l : LockNo) (c : Rig) → Parts c → Parts (handed_on b l c)
  handed_parts true l c h =
      let g = granted_known v l c.waiting h.waiting_known in
      record {
        tasks_known = h.tasks_known;
        running_known = h.running_known;
        ready_known = ready_more v c.ready (granted l c.waiting).entries h.ready_known g.0;
        waiting_known = g.1;
        endings_known = h.endings_known;
        staged_known = h.staged_known;
        queues_known = h.queues_known;
        queues_few = h.queues_few;
      }
  handed_parts false l c h = h

  release_parts : (b : Bool) (task : TaskNo) (l : LockNo) (c : Rig) → Parts c → Parts (releases b task l c).rig
  release_parts true task l c h = absent task (handed_on (is_wanted l c.waiting) l c) (handed_parts (is_wanted l c.waiting) l c h)
  release_parts false task l c h = with_turn task (Some (given.Fault _)) c tt h

  -- a queue that is made is covered, and so are its events
  queue_parts : (b : Bool) (task : TaskNo) (bound : ℕ) (c : Rig) → Covers v (makes_queue b task bound c).rig
      → length c.queues + length c.queues ≤ length c.objects.events → Parts c → Parts (makes_queue b task bound c).rig
  queue_parts true task bound c w q h = with_turn task (Some (given.Fault _)) c tt h
  queue_parts false task bound c w q h =
      let events : List Bool = (c.objects.events ++ false ∷ []) ++ false ∷ [] in
      let l : length (slice_set events (suc (length c.objects.events)) true) ≡ length events = set_length events (suc (length c.objects.events)) true in
      let m : length events ≡ length (c.objects.events ++ false ∷ []) + 1 = more_length (c.objects.events ++ false ∷ []) false in
      let n : length (c.objects.events ++ false ∷ []) ≡ length c.objects.events + 1 = more_length c.objects.events false in
      let o : length (with_new_queue bound c).queues ≡ length c.queues + 1 = more_length c.queues (empty_queue bound (new_event c) (second_event c)) in
      record {
        tasks_known = h.tasks_known;
        running_known = omega (arith, w.3);
        ready_known = h.ready_known;
        waiting_known = h.waiting_known;
        endings_known = h.endings_known;
        staged_known = h.staged_known;
        queues_known = queues_more v c.queues (empty_queue bound (new_event c) (second_event c) ∷ []) h.queues_known ((tt, (omega (arith, w.0), omega (arith, w.0))), tt);
        queues_few = omega (arith, w.0, q);
      }

  sets_if_parts : (b : Bool) (e : EventNo) (c : Rig) → Parts c → Parts (sets_if b e c)
  sets_if_parts true e c h = wake_parts (cause.Event e) (record c { objects = with_set e c.objects }) h
  sets_if_parts false e c h = h

  clears_if_parts : (b : Bool) (e : EventNo) (c : Rig) → Parts c → Parts (clears_if b e c)
  clears_if_parts true e c h = h
  clears_if_parts false e c h = h

  with_items_parts : (n : QueueNo) (items : List Value) (c : Rig) → KnowsAll v items → Parts c → Parts (record c { queues = with_items n items c.queues })
  with_items_parts n items c k h =
      let l : length (with_items n items c.queues) ≡ length c.queues = set_length c.queues n.0 (holding items (queue_at n c.queues)) in
      record {
        tasks_known = h.tasks_known;
        running_known = h.running_known;
        ready_known = h.ready_known;
        waiting_known = h.waiting_known;
        endings_known = h.endings_known;
        staged_known = h.staged_known;
        queues_known = with_items_known v n items c.queues k h.queues_known;
        queues_few = omega (arith, h.queues_few);
      }

  put_item_parts : (full limit : Bool) (task : TaskNo) (n : QueueNo) (item : Value) (c : Rig) → Knows v item → Parts c → Parts (puts_item full limit task n item c).rig
  put_item_parts true limit task n item c k h = with_turn task (Some (given.Fault _)) c tt h
  put_item_parts false true task n item c k h = with_turn task (Some (given.Fault _)) c tt h
  put_item_parts false false task n item c k h =
      let old : TaskQueue = queue_at n c.queues in
      let items : List Value = old.items ++ item ∷ [] in
      let d : Rig = record c { queues = with_items n items c.queues } in
      let e : Rig = sets_if (is_empty old.items) old.items_event d in
      absent task (with_put n item c) (clears_if_parts (has_no_room (queue_at n (with_item n item c.queues))) old.space_event e
      (sets_if_parts (is_empty old.items) old.items_event d
      (with_items_parts n items c (items_more v old.items (item ∷ []) (queue_items_known v n c.queues h.queues_known) (k, tt)) h)))

  get_item_parts : (task : TaskNo) (n : QueueNo) (items : List Value) (c : Rig) → KnowsAll v items → Parts c → Parts (gets_item task n items c).rig
  get_item_parts task n [] c k h = with_turn task (Some (given.Fault _)) c tt h
  get_item_parts task n (item ∷ items) c k h =
      let old : TaskQueue = queue_at n c.queues in
      let d : Rig = record c { queues = with_items n items c.queues } in
      let e : Rig = sets_if (has_no_room old) old.space_event d in
      with_turn task (Some (given.Value item)) (with_get n items c) k.0 (clears_if_parts (is_empty items) old.items_event e
      (sets_if_parts (has_no_room old) old.space_event d (with_items_parts n items c k.1 h)))

  effect_parts : (setup : Setup) (task : TaskNo) (t : Turned) (c : Rig) → setup.functions ≡ functions → AreSoundFunctions functions → KnowsTurned functions v t
      → Covers v (effect setup task t c).rig → length c.queues + length c.queues ≤ length c.objects.events → Parts c → Parts (effect setup task t c).rig
  effect_parts setup task (turned.Await trig) c f s k w q h =
      awaits_parts task (tree_of trig c.sim.time) (check trig c.sim.time c.sim.region) c (tree_known v trig c.sim.time k) h
  effect_parts setup task (turned.Stage sig act) c f s k w q h = write_parts (is_end c.sim.region) sig (stages task sig act c) c (stages_parts task sig act c k h) h
  effect_parts setup task (turned.Put sig act) c f s k w q h =
      write_parts (is_end c.sim.region) sig (puts setup task sig act c) c (absent task (deposit setup sig act c).rig (deposit_parts setup sig act c h)) h
  effect_parts setup task (turned.Start func args give_way) c f s k w q h =
      started (is_full c) setup.functions f w
    where
      started : (full : Bool) (fs : List Function) → fs ≡ functions → Covers v (starts full task (function_at fs func) args give_way c).rig
          → Parts (starts full task (function_at fs func) args give_way c).rig
      started full fs e x = subst (λ (gs : List Function). Parts (starts full task (function_at gs func) args give_way c).rig) (sym e)
          (starts_parts full task func args give_way c s k.1 h (subst (λ (gs : List Function). Covers v (starts full task (function_at gs func) args give_way c).rig) e x))
  effect_parts setup task (turned.Kill other) c f s k w q h = kills_parts (other.0 == task.0) task other c h
  effect_parts setup task turned.NewEvent c f s k w q h = event_parts (nat_le event_limit (length c.objects.events)) task c w h
  effect_parts setup task (turned.SetEvent e) c f s k w q h = absent task (wake (cause.Event e) (record c { objects = with_set e c.objects })) (wake_parts (cause.Event e) (record c { objects = with_set e c.objects }) h)
  effect_parts setup task (turned.ClearEvent e) c f s k w q h = absent task c h
  effect_parts setup task turned.NewLock c f s k w q h = lock_parts (nat_le lock_limit (length c.objects.locks)) task c w h
  effect_parts setup task (turned.Release l) c f s k w q h = release_parts (is_held l c.objects) task l c h
  effect_parts setup task (turned.NewQueue bound) c f s k w q h = queue_parts (nat_lt event_limit (length c.objects.events + 2)) task bound c w q h
  effect_parts setup task (turned.PutNow n item) c f s k w q h = put_item_parts (has_no_room (queue_at n c.queues)) (is_at_limit (queue_at n c.queues)) task n item c k.1 h
  effect_parts setup task (turned.GetNow n) c f s k w q h = get_item_parts task n (queue_at n c.queues).items c (queue_items_known v n c.queues h.queues_known) h
  effect_parts setup task (turned.Draw low span) c f s k w q h = with_turn task (Some (given.Value (value.Whole _))) c tt h
  effect_parts setup task (turned.Log level text) c f s k w q h = absent task c h
  effect_parts setup task (turned.Done x) c f s k w q h = ends_parts task (Returned x) false c k h
  effect_parts setup task (turned.Raised fault) c f s k w q h = fails_parts (is_joined task c.waiting) task fault c h
  effect_parts setup task turned.Spent c f s k w q h = h

  wish_parts : (setup : Setup) (task : TaskNo) (o : Option Turned) (c : Rig) → setup.functions ≡ functions → AreSoundFunctions functions → IfSome o (KnowsTurned functions v)
      → Covers v (effect_of setup task o c).rig → length c.queues + length c.queues ≤ length c.objects.events → Parts c → Parts (effect_of setup task o c).rig
  wish_parts setup task None c f s k w q h = with_turn task None c tt h
  wish_parts setup task (Some t) c f s k w q h = effect_parts setup task t c f s k w q h

  kept_parts : (number : TaskNo) (u : Task) (c : Rig) → KnowsWhole functions v u → Parts c → Parts (kept number u c)
  kept_parts number u c k h = record {
    tasks_known = tasks_stored functions v number u c.tasks k h.tasks_known;
    running_known = tt;
    ready_known = h.ready_known;
    waiting_known = h.waiting_known;
    endings_known = h.endings_known;
    staged_known = h.staged_known;
    queues_known = h.queues_known;
    queues_few = h.queues_few;
  }

-- ---- steps

map_length : {A B : Type 0} → (f : A → B) (xs : List A) → length (map f xs) ≡ length xs
map_length f [] = refl
map_length f (x ∷ xs) = ap suc (map_length f xs)

view_covers : (setup : Setup) (c : Rig) → Covers (view_of setup c) c
view_covers setup c =
    let n : length (map is_some c.endings) ≡ length c.endings = map_length is_some c.endings in
    let q : length (map seen c.queues) ≡ length c.queues = map_length seen c.queues in
    (omega arith, omega arith, omega arith, omega arith)

pub view_wider : (setup : Setup) (c d : Rig) → AreAsWide c d → Grows c d → Wider (view_of setup c) (view_of setup d)
view_wider setup c d w g =
    let m : length (map is_some c.endings) ≡ length c.endings = map_length is_some c.endings in
    let n : length (map is_some d.endings) ≡ length d.endings = map_length is_some d.endings in
    let p : length (map seen c.queues) ≡ length c.queues = map_length seen c.queues in
    let q : length (map seen d.queues) ≡ length d.queues = map_length seen d.queues in
    record { design = record { places = refl; nodes = refl; widths = w }; events = g.0; locks = g.1; ended = omega (arith, g.2); queues = omega (arith, g.3) }

module _ (setup : Setup) (c d : Rig) (h : IsKnown setup c) (w : AreAsWide c d) (g : Grows c d) where
  wider : Wider (view_of setup c) (view_of setup d)
  wider = view_wider setup c d w g

  pub known_by : KnowsParts setup.functions (view_of setup d) d → IsKnown setup d
  known_by p = record {
    design = design_wider (view_of setup c) (view_of setup d) wider.design h.design;
    top = node_wider (view_of setup c) (view_of setup d) wider.design 0 h.top;
    sound = h.sound;
    parts = p;
  }

  -- what the configuration before holds is known after the step
  pub before : KnowsParts setup.functions (view_of setup d) c
  before = parts_wider setup.functions (view_of setup c) (view_of setup d) wider c h.parts

-- a task with its turn does a step; the configuration before, and the one in which it has its turn
turn_known : (setup : Setup) (b c : Rig) (r : Running) (o : Option Task) → task_at r.task c.tasks ≡ o → IsKnown setup c → IfSome r.given (KnowsGiven (view_of setup c))
    → AreAsWide c (stepped setup r o c).rig → IsKnown setup (stepped setup r o c).rig
turn_known setup b c r None e h k w =
    let p = before setup c (record c { running = None }) h w (same_grows c) in
    known_by setup c (record c { running = None }) h w (same_grows c) (record {
      tasks_known = p.tasks_known;
      running_known = tt;
      ready_known = p.ready_known;
      waiting_known = p.waiting_known;
      endings_known = p.endings_known;
      staged_known = p.staged_known;
      queues_known = p.queues_known;
      queues_few = p.queues_few;
    })
turn_known setup b c r (Some task) e h k w =
    let v : View = view_of setup c in
    let n = next setup.functions task r.given v in
    let d : Rig = (stepped setup r (Some task) c).rig in
    let g : Grows c d = stepped_grows setup r (Some task) c in
    let u : View = view_of setup d in
    let x : Wider v u = view_wider setup c d w g in
    let t : KnowsWhole setup.functions v task = subst (λ (q : Option Task). IfSome q (KnowsWhole setup.functions v)) e (at_known setup.functions v r.task c.tasks h.parts.tasks_known) in
    let a = next_is_known setup.functions task r.given v h.design (events_known setup c h.parts.queues_known) t k in
    known_by setup c d h w g (wish_parts setup.functions u setup r.task n.turned (kept r.task n.task c) refl h.sound
    (wished setup.functions v u x n.turned a.1) (view_covers setup d) h.parts.queues_few
    (kept_parts setup.functions u r.task n.task c (whole_wider setup.functions v u x n.task a.0) (before setup c d h w g)))
  where
    wished : (functions : List Function) (v u : View) → Wider v u → (q : Option Turned) → IfSome q (KnowsTurned functions v) → IfSome q (KnowsTurned functions u)
    wished functions v u x None h = tt
    wished functions v u x (Some t) h = turned_wider functions v u x t h

event_known : (setup : Setup) (o : Option Event) (c : Rig) → IsKnown setup c → AreAsWide c (after_event setup o c).rig → IsKnown setup (after_event setup o c).rig
event_known setup None c h w = known_by setup c (after_event setup None c).rig h w (same_grows c) (before setup c (after_event setup None c).rig h w (same_grows c))
event_known setup (Some e) c h w =
    let d : Rig = (after_event setup (Some e) c).rig in
    let g : Grows c d = event_step_grows setup (Some e) c in
    known_by setup c d h w g (serve_parts setup.functions (view_of setup d) setup e.fired (record c { sim = e.state }) (before setup c d h w g))

chosen_known : (setup : Setup) (running : Option Running) (ready : List Entry) (c : Rig) → c.running ≡ running → c.ready ≡ ready → IsKnown setup c
    → AreAsWide c (chosen setup running ready c).rig → IsKnown setup (chosen setup running ready c).rig
chosen_known setup (Some r) ready c e s h w =
    turn_known setup c c r (task_at r.task c.tasks) refl h (subst (λ (o : Option Running). IfSome o (KnowsRunning (view_of setup c))) e h.parts.running_known) w
chosen_known setup None (x ∷ xs) c e s h w =
    let r : KnowsReady (view_of setup c) (x ∷ xs) = subst (λ (es : List Entry). KnowsReady (view_of setup c) es) s h.parts.ready_known in
    let t : KnowsGiven (view_of setup c) (told_given x.given c.endings) = told_known setup.functions (view_of setup c) c x.given h.parts r.0 in
    turn_known setup c (resumed x xs c) (taken c x) (task_at x.task c.tasks) refl
    (record {
      design = h.design;
      top = h.top;
      sound = h.sound;
      parts = record {
        tasks_known = h.parts.tasks_known;
        running_known = t;
        ready_known = r.1;
        waiting_known = h.parts.waiting_known;
        endings_known = h.parts.endings_known;
        staged_known = h.parts.staged_known;
        queues_known = h.parts.queues_known;
        queues_few = h.parts.queues_few;
      };
    }) t w
chosen_known setup None [] c e s h w = event_known setup (event_of setup c) c h w

-- a step keeps what is known, where each signal stays as wide as it is
pub step_is_known : (setup : Setup) (c : Rig) → IsKnown setup c → AreAsWide c (rig_step setup c).rig → IsKnown setup (rig_step setup c).rig
step_is_known setup c h w = chosen_known setup c.running c.ready c refl refl h w

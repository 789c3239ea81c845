-- No task waits for what has come, whatever is done.
use Rattle.std.proofs.Common.{arith, ◌≡◌, ℕ, zero, suc, Bool, true, false, List, [], ◌∷◌, ◌++◌, length, Option, None, Some, Ok, Err, refl, ap, sym, ◌∙◌}
use Rattle.std.specs.Prelude.{◌==◌, nat_le, slice_index_or, slice_set, nat_lt, ◌+◌}
use Rattle.gpi.specs.Events.{Event}
use Rattle.gpi.specs.Keys.{among, set_of}
use Rattle.gpi.specs.State.{is_end}
use Rattle.gpi.specs.declared.types.Key.{Key}
use Rattle.gpi.specs.declared.types.Key.TheVariants.{ReadWrite}
use Rattle.gpi.specs.declared.types.SigId.{SigId}
use Rattle.gpi.specs.declared.types.Write.{Write}
use Rattle.py_value.specs.Answer.{Answer}
use Rattle.py_value.specs.declared.trigger.EventNo.{EventNo}
use Rattle.py_value.specs.declared.trigger.LockNo.{LockNo}
use Rattle.py_value.specs.declared.trigger.TaskNo.{TaskNo}
use Rattle.py_value.specs.declared.value.Value.{Value}
use Rattle.py_value.specs.declared.value.Value.TheVariants.{Place as TopPlace}
use Rattle.py_value.specs.declared.value.Fault.{Fault}
use Rattle.await_tree.specs.Begin.{Facts, begin}
use Rattle.await_tree.specs.Check.{tree_of, check}
use Rattle.await_tree.specs.Fire.{is_same}
use Rattle.await_tree.specs.Steps.{step_of}
use Rattle.await_tree.specs.Tree.{Tree, leaves}
use Rattle.await_tree.specs.declared.cause.Awaited.{Awaited}
use Rattle.await_tree.specs.declared.cause.Awaited.TheVariants as awaited
use Rattle.await_tree.specs.declared.cause.Cause.{Cause}
use Rattle.await_tree.specs.declared.cause.Cause.TheVariants as cause
use Rattle.await_tree.specs.declared.cause.Step.{Step}
use Rattle.await_tree.specs.declared.cause.Step.TheVariants.{Still, Done}
use Rattle.await_tree.specs.EndedTasks.Endings.{Endings, all_failed, failed_of, is_done, with_task}
use Rattle.await_tree.specs.declared.ended_tasks.ending.Ending.{Ending}
use Rattle.await_tree.specs.declared.ended_tasks.ending.Ending.TheVariants.{Returned, Failed, Killed}
use Rattle.await_tree.specs.SyncObjects.States.{event_limit, is_held, lock_limit, with_set, with_unset, with_event, with_lock, with_free}
use Rattle.run_view.specs.declared.signal_port.staged.Staged.{Staged}
use Rattle.test_meaning.specs.Body.BodyTrees.{Case, Function, Limit}
use Rattle.task_queue.specs.Queues.{TaskQueue, queue_at, is_full as has_no_room, is_at_limit, is_empty, with_items, with_item}
use Rattle.py_value.specs.declared.trigger.QueueNo.{QueueNo}
use Rattle.py_evaluate.specs.Attribute.Look.{View}
use Rattle.rig_model.specs.Run.Known.{IsKnown, KnowsAwaited, KnowsWaiting}
use Rattle.rig_model.specs.declared.run.outcome.Outcome.{Outcome}
use Rattle.rig_model.specs.Run.Verdict.{reason_of}
use Rattle.rig_model.specs.Task.Frame.{Task, function_at}
use Rattle.rig_model.specs.Task.Step.{next}
use Rattle.rig_model.specs.declared.task.task.Turned.{Turned}
use Rattle.rig_model.specs.declared.task.task.Turned.TheVariants as turned
use Rattle.await_tree.specs.WaitList.Waiting.{is_joined, is_wanted, Waiting}
use Rattle.await_tree.specs.declared.wait_list.ready.Entry.{Entry}
use Rattle.rig_model.specs.Run.Case.{values_of, limit_steps, with_deadline, with_limit, with_test}
use Rattle.rig_model.specs.Run.Effect.{begun_by, awaits_by, write_by, stages, puts, starts, starter, next_task, with_new_task, with_end, withdrawn, fails, kills_by, kills, makes_event, makes_lock, releases, is_full, handed_on, effect, effect_of, makes_queue, with_new_queue, sets_if, clears_if, puts_item, gets_item}
use Rattle.rig_model.specs.Run.Rig.{Rig, Setup, Running, After, awaited, event_of, facts_of, procs, view_of}
use Rattle.rig_model.specs.Run.Rig as rig
use Rattle.rig_model.specs.Run.Run.{Run, Place, Begins, Runs, Waits, Over, skipped, unskipped, with_skips, begun, planned, judged, step_in, step_at, step}
use Rattle.rig_model.specs.Run.Serve.{wake, serve_keys, with_fired, after_put, deposit, flushed, flushed_if, served, ended_if, is_due, serve, written}
use Rattle.rig_model.specs.Run.Step.{task_at, taken, stepped, kept, after_event, resumed, chosen}
use Rattle.run_laws.specs.Places.Reached.{IsReached, IsSoundSetup}
use Rattle.run_laws.specs.Places.Unmet.{IsUnmet, AreUnmet, AllUnmet, WaitsInNeed, WaitsForOthers, without_events}
use Rattle.run_laws.proofs.PlacesLemmas.Counts.{other_at, other_number}
use Rattle.run_laws.proofs.PlacesLemmas.KnownLeaves.{AllKnown, leaves_known}
use Rattle.run_laws.proofs.PlacesLemmas.Leaves.{begin_takes, begin_unmet, unmet_as}
use Rattle.run_laws.proofs.PlacesLemmas.Known.{Holds, start_holds, step_holds}
use Rattle.run_laws.proofs.PlacesLemmas.Reached.{always, reached_each}
use Rattle.run_laws.proofs.PlacesLemmas.Waits.{apart_waits, granted_waits, served_waits, still_waits, waits_as, waits_more, waits_without}

-- ---- one more, and one changed

-- an answer at a place where there was this one, or nothing
more_at : {A : Type 0} → (xs : List A) (x d : A) (n : ℕ) → slice_index_or xs n d ≡ d → x ≡ d → slice_index_or (xs ++ x ∷ []) n d ≡ d
more_at [] x d zero h e = e
more_at [] x d (suc n) h e = refl
more_at (y ∷ ys) x d zero h e = h
more_at (y ∷ ys) x d (suc n) h e = more_at ys x d n h e

held_more : (bs : List Bool) (b : Bool) (n : ℕ) → slice_index_or bs n false ≡ true → slice_index_or (bs ++ b ∷ []) n false ≡ true
held_more [] b n h = absurd (cc)
held_more (c ∷ bs) b zero h = h
held_more (c ∷ bs) b (suc n) h = held_more bs b n h

set_at : (bs : List Bool) (m n : ℕ) → slice_index_or bs n false ≡ false → slice_index_or (slice_set bs m false) n false ≡ false
set_at [] m n h = h
set_at (b ∷ bs) zero zero h = refl
set_at (b ∷ bs) zero (suc n) h = h
set_at (b ∷ bs) (suc m) zero h = h
set_at (b ∷ bs) (suc m) (suc n) h = set_at bs m n h

failed_more : (es : Endings) → all_failed (with_task es) ≡ all_failed es ++ None ∷ []
failed_more [] = refl
failed_more (e ∷ es) = ap (λ (xs : List (Option Bool)). failed_of e ∷ xs) (failed_more es)

failed_set : (es : Endings) (n : ℕ) (e : Ending) → all_failed (slice_set es n (Some e)) ≡ slice_set (all_failed es) n (failed_of (Some e))
failed_set [] n e = refl
failed_set (x ∷ es) zero e = refl
failed_set (x ∷ es) (suc n) e = ap (λ (xs : List (Option Bool)). failed_of x ∷ xs) (failed_set es n e)

-- ---- what has come and what hasn't, after a change

-- all that hadn't come hasn't
abbrev Keeps : Facts → Facts → Type 0
Keeps f g = (a : Awaited) → IsUnmet f a → IsUnmet g a

-- all but this
abbrev KeepsBut : Awaited → Facts → Facts → Type 0
KeepsBut r f g = (a : Awaited) → is_same r a ≡ false → IsUnmet f a → IsUnmet g a

started : (c : Rig) (function : Function) (args : List Value) → Keeps (facts_of c) (facts_of (with_new_task function args c))
started c function args (awaited.Key k) h = tt
started c function args (awaited.Event event) h = h
started c function args (awaited.Lock lock) h = h
started c function args (awaited.Join task) h =
    ap (λ (os : List (Option Bool)). slice_index_or os task.0 None) (failed_more c.endings) ∙ more_at (all_failed c.endings) None None task.0 h refl

has_ended : (c : Rig) (task : TaskNo) (ending : Ending) → KeepsBut (awaited.Join task) (facts_of c) (facts_of (with_end task ending c))
has_ended c task ending (awaited.Key k) n h = tt
has_ended c task ending (awaited.Event event) n h = h
has_ended c task ending (awaited.Lock lock) n h = h
has_ended c task ending (awaited.Join other) n h =
    ap (λ (os : List (Option Bool)). slice_index_or os other.0 None) (failed_set c.endings task.0 ending)
    ∙ other_at (all_failed c.endings) (failed_of (Some ending)) None task.0 other.0 (other_number task.0 other.0 n) ∙ h

is_set : (c : Rig) (event : EventNo) → KeepsBut (awaited.Event event) (facts_of c) (facts_of (record c { objects = with_set event c.objects }))
is_set c event (awaited.Key k) n h = tt
is_set c event (awaited.Event other) n h = other_at c.objects.events true false event.0 other.0 (other_number event.0 other.0 n) ∙ h
is_set c event (awaited.Lock lock) n h = h
is_set c event (awaited.Join task) n h = h

is_cleared : (c : Rig) (event : EventNo) → Keeps (facts_of c) (facts_of (record c { objects = with_unset event c.objects }))
is_cleared c event (awaited.Key k) h = tt
is_cleared c event (awaited.Event other) h = set_at c.objects.events event.0 other.0 h
is_cleared c event (awaited.Lock lock) h = h
is_cleared c event (awaited.Join task) h = h

is_free : (c : Rig) (lock : LockNo) → KeepsBut (awaited.Lock lock) (facts_of c) (facts_of (record c { objects = with_free lock c.objects }))
is_free c lock (awaited.Key k) n h = tt
is_free c lock (awaited.Event event) n h = h
is_free c lock (awaited.Lock other) n h = other_at c.objects.locks false false lock.0 other.0 (other_number lock.0 other.0 n) ∙ h
is_free c lock (awaited.Join task) n h = h

new_event : (c : Rig) → Keeps (facts_of c) (facts_of (record c { objects = with_event c.objects }))
new_event c (awaited.Key k) h = tt
new_event c (awaited.Event event) h = more_at c.objects.events false false event.0 h refl
new_event c (awaited.Lock lock) h = h
new_event c (awaited.Join task) h = h

new_lock : (c : Rig) → Keeps (facts_of c) (facts_of (record c { objects = with_lock c.objects }))
new_lock c (awaited.Key k) h = tt
new_lock c (awaited.Event event) h = h
new_lock c (awaited.Lock lock) h = held_more c.objects.locks false lock.0 h
new_lock c (awaited.Join task) h = h

-- the locks that a tree takes when it begins
has_begun : (c : Rig) (t : Tree) → Keeps (facts_of c) (facts_of (record c { objects = record c.objects { locks = (begin t (facts_of c)).facts.locks } }))
has_begun c t (awaited.Key k) h = tt
has_begun c t (awaited.Event event) h = h
has_begun c t (awaited.Lock lock) h = (begin_takes t (facts_of c)).locks lock.0 h
has_begun c t (awaited.Join task) h = h

-- the facts after a tree has begun are those of the configuration with its locks
same_facts : (c : Rig) (t : Tree) → Keeps (begin t (facts_of c)).facts (facts_of (record c { objects = record c.objects { locks = (begin t (facts_of c)).facts.locks } }))
same_facts c t (awaited.Key k) h = tt
same_facts c t (awaited.Event event) h = ap (λ (bs : List Bool). slice_index_or bs event.0 false) (sym (begin_takes t (facts_of c)).events) ∙ h
same_facts c t (awaited.Lock lock) h = h
same_facts c t (awaited.Join task) h = ap (λ (os : List (Option Bool)). slice_index_or os task.0 None) (sym (begin_takes t (facts_of c)).tasks) ∙ h

-- a new queue has two events of numbers that no leaf names
new_queue_unmet : (setup : Setup) (bound : ℕ) (c : Rig) (a : Awaited) → KnowsAwaited (view_of setup c) a → IsUnmet (facts_of c) a → IsUnmet (facts_of (with_new_queue bound c)) a
new_queue_unmet setup bound c (awaited.Key key) k h = tt
new_queue_unmet setup bound c (awaited.Event event) k h =
    let one : List Bool = c.objects.events ++ false ∷ [] in
    other_at (one ++ false ∷ []) true false (suc (length c.objects.events)) event.0 (λ (e : suc (length c.objects.events) ≡ event.0). absurd (omega (arith, e, k)))
    ∙ more_at one false false event.0 (more_at c.objects.events false false event.0 h refl) refl
new_queue_unmet setup bound c (awaited.Lock lock) k h = h
new_queue_unmet setup bound c (awaited.Join task) k h = h

module _ (v : View) (f g : Facts) (keeps : (a : Awaited) → KnowsAwaited v a → IsUnmet f a → IsUnmet g a) where
  unmet_known : (xs : List Awaited) → AllKnown v xs → AreUnmet f xs → AreUnmet g xs
  unmet_known [] k h = tt
  unmet_known (x ∷ xs) k h = (keeps x k.0 h.0, unmet_known xs k.1 h.1)

  waits_known : (ws : List Waiting) → KnowsWaiting v ws → AllUnmet f ws → AllUnmet g ws
  waits_known [] k h = tt
  waits_known (w ∷ ws) k h = (unmet_known (leaves w.tree) (leaves_known v w.tree k.0) h.0, waits_known ws k.1 h.1)

new_queue_others : (bound : ℕ) (c : Rig) → Keeps (without_events (facts_of c)) (without_events (facts_of (with_new_queue bound c)))
new_queue_others bound c (awaited.Key key) h = tt
new_queue_others bound c (awaited.Event event) h = refl
new_queue_others bound c (awaited.Lock lock) h = h
new_queue_others bound c (awaited.Join task) h = h

-- ---- with events, and without

abbrev seen_by : Bool → Facts → Facts
seen_by true f = f
seen_by false f = without_events f

-- where events count, the waiting trees are known
abbrev KnowsIf : Bool → View → List Waiting → Type 0
KnowsIf true v ws = KnowsWaiting v ws
KnowsIf false v ws = Unit {0}

keeps_in : (all : Bool) (f g : Facts) → Keeps f g → Keeps (seen_by all f) (seen_by all g)
keeps_in true f g k a h = k a h
keeps_in false f g k (awaited.Key key) h = tt
keeps_in false f g k (awaited.Event event) h = refl
keeps_in false f g k (awaited.Lock lock) h = k (awaited.Lock lock) h
keeps_in false f g k (awaited.Join task) h = k (awaited.Join task) h

but_in : (all : Bool) (r : Awaited) (f g : Facts) → KeepsBut r f g → KeepsBut r (seen_by all f) (seen_by all g)
but_in true r f g k a n h = k a n h
but_in false r f g k (awaited.Key key) n h = tt
but_in false r f g k (awaited.Event event) n h = refl
but_in false r f g k (awaited.Lock lock) n h = k (awaited.Lock lock) n h
but_in false r f g k (awaited.Join task) n h = k (awaited.Join task) n h

less : (all : Bool) (f : Facts) → Keeps f (seen_by all f)
less true f a h = h
less false f (awaited.Key key) h = tt
less false f (awaited.Event event) h = refl
less false f (awaited.Lock lock) h = h
less false f (awaited.Join task) h = h

module _ (all : Bool) where
  -- ---- serving

  abbrev Needs : Rig → Type 0
  Needs c = AllUnmet (seen_by all (facts_of c)) c.waiting

  wake_needs : (on : Cause) (c : Rig) → Needs c → Needs (wake on c)
  wake_needs on c h = still_waits (seen_by all (facts_of c)) on c.waiting h

  keys_need : (keys others : List Key) (c : Rig) → Needs c → Needs (serve_keys keys others c)
  keys_need [] others c h = h
  keys_need (k ∷ ks) others c h = keys_need ks others (record (wake (cause.Key k) c) { fired = others ++ ks }) (wake_needs (cause.Key k) c h)

  put_needs : (setup : Setup) (e : Event) (c : Rig) → Needs c → Needs (after_put setup e c).rig
  put_needs setup e c h = keys_need e.fired c.fired (with_fired e.fired (record c { sim = e.state })) h

  deposit_needs : (setup : Setup) (sig : SigId) (act : Write) (c : Rig) → Needs c → Needs (deposit setup sig act c).rig
  deposit_needs setup sig act c h = put_needs setup (written setup c.sim (set_of (rig.awaited c)) sig act) c h

  flushed_needs : (setup : Setup) (writes : List Staged) (c : Rig) → Needs c → Needs (flushed setup writes c).rig
  flushed_needs setup [] c h = h
  flushed_needs setup (w ∷ ws) c h =
      flushed_needs setup ws (deposit setup w.sig w.act (record c { staged = ws })).rig (deposit_needs setup w.sig w.act (record c { staged = ws }) h)

  flush_needs : (setup : Setup) (b : Bool) (c : Rig) → Needs c → Needs (flushed_if setup b c).rig
  flush_needs setup true c h = flushed_needs setup c.staged c h
  flush_needs setup false c h = h

  ended_if_needs : (b : Bool) (c : Rig) → Needs c → Needs (ended_if b c).rig
  ended_if_needs true c h = h
  ended_if_needs false c h = h

  serve_needs : (setup : Setup) (keys : List Key) (c : Rig) → Needs c → Needs (serve setup keys c).rig
  serve_needs setup keys c h =
      let d : Rig = (flushed_if setup (among ReadWrite keys) (with_fired keys c)).rig in
      ended_if_needs (is_due keys c.deadline) (served keys c.fired d).rig
      (keys_need keys c.fired d (flush_needs setup (among ReadWrite keys) (with_fired keys c) h))

  -- ---- effects

  begun_needs : (task : TaskNo) (tree : Tree) (s : Step) (c : Rig) → AreUnmet (seen_by all (facts_of c)) (leaves tree) → Needs c → Needs (begun_by task tree s c).rig
  begun_needs task tree (Done g) c k h = h
  begun_needs task tree Still c k h = waits_more (seen_by all (facts_of c)) c.waiting (record { task = task; tree = tree } ∷ []) h (k, tt)

  awaits_needs : (task : TaskNo) (tree : Tree) (o : Option Fault) (c : Rig) → Needs c → Needs (awaits_by task tree o c).rig
  awaits_needs task tree (Some fault) c h = h
  awaits_needs task tree None c h =
      let b = begin tree (facts_of c) in
      let d : Rig = record c { objects = record c.objects { locks = b.facts.locks } } in
      begun_needs task b.tree (step_of b.tree) d (unmet_as (seen_by all b.facts) (seen_by all (facts_of d)) (leaves b.tree) (keeps_in all _ _ (same_facts c tree))
      (unmet_as b.facts (seen_by all b.facts) (leaves b.tree) (less all b.facts) (begin_unmet tree (facts_of c))))
      (waits_as (seen_by all (facts_of c)) (seen_by all (facts_of d)) c.waiting (keeps_in all _ _ (has_begun c tree)) h)

  write_needs : (b : Bool) (sig : SigId) (a : After) (c : Rig) → Needs c → Needs a.rig → Needs (write_by b sig a c).rig
  write_needs true sig a c h k = h
  write_needs false sig a c h k = k

  starter_needs : (task number : TaskNo) (b : Bool) (c : Rig) → Needs c → Needs (starter task number b c).rig
  starter_needs task number true c h = h
  starter_needs task number false c h = h

  new_needs : (function : Function) (args : List Value) (c : Rig) → Needs c → Needs (with_new_task function args c)
  new_needs function args c h = waits_as (seen_by all (facts_of c)) (seen_by all (facts_of (with_new_task function args c))) c.waiting (keeps_in all _ _ (started c function args)) h

  starts_needs : (full : Bool) (task : TaskNo) (function : Function) (args : List Value) (b : Bool) (c : Rig) → Needs c → Needs (starts full task function args b c).rig
  starts_needs true task function args b c h = h
  starts_needs false task function args b c h = starter_needs task (next_task c) b (with_new_task function args c) (new_needs function args c h)

  -- a task ends, and whoever joins it is served
  end_needs : (task : TaskNo) (ending : Ending) (failed : Bool) (c : Rig) → Needs c → Needs (wake (cause.Ended task failed) (with_end task ending c))
  end_needs task ending failed c h =
      served_waits (seen_by all (facts_of c)) (seen_by all (facts_of (with_end task ending c))) (cause.Ended task failed) tt (but_in all (awaited.Join task) _ _ (has_ended c task ending)) c.waiting h

  fails_needs : (b : Bool) (task : TaskNo) (fault : Fault) (c : Rig) → is_joined task c.waiting ≡ b → Needs c → Needs (fails b task fault c).rig
  fails_needs true task fault c e h = end_needs task (Failed fault) true c h
  fails_needs false task fault c e h =
      apart_waits (seen_by all (facts_of c)) (seen_by all (facts_of (with_end task (Failed fault) c))) (awaited.Join task) (but_in all (awaited.Join task) _ _ (has_ended c task (Failed fault))) c.waiting e h

  kill_needs : (b : Bool) (other : TaskNo) (c : Rig) → Needs c → Needs (kills_by b other c)
  kill_needs true other c h = h
  kill_needs false other c h = end_needs other Killed false (withdrawn other c) (waits_without (seen_by all (facts_of c)) other c.waiting h)

  kills_needs : (b : Bool) (task other : TaskNo) (c : Rig) → Needs c → Needs (kills b task other c).rig
  kills_needs true task other c h = h
  kills_needs false task other c h = kill_needs (is_done other c.endings) other c h

  event_needs : (b : Bool) (task : TaskNo) (c : Rig) → Needs c → Needs (makes_event b task c).rig
  event_needs true task c h = h
  event_needs false task c h = waits_as (seen_by all (facts_of c)) (seen_by all (facts_of (record c { objects = with_event c.objects }))) c.waiting (keeps_in all _ _ (new_event c)) h

  lock_needs : (b : Bool) (task : TaskNo) (c : Rig) → Needs c → Needs (makes_lock b task c).rig
  lock_needs true task c h = h
  lock_needs false task c h = waits_as (seen_by all (facts_of c)) (seen_by all (facts_of (record c { objects = with_lock c.objects }))) c.waiting (keeps_in all _ _ (new_lock c)) h

  handed_needs : (b : Bool) (l : LockNo) (c : Rig) → is_wanted l c.waiting ≡ b → Needs c → Needs (handed_on b l c)
  handed_needs true l c e h = granted_waits (seen_by all (facts_of c)) l c.waiting h
  handed_needs false l c e h =
      apart_waits (seen_by all (facts_of c)) (seen_by all (facts_of (record c { objects = with_free l c.objects }))) (awaited.Lock l) (but_in all (awaited.Lock l) _ _ (is_free c l)) c.waiting e h

  release_needs : (b : Bool) (task : TaskNo) (l : LockNo) (c : Rig) → Needs c → Needs (releases b task l c).rig
  release_needs true task l c h = handed_needs (is_wanted l c.waiting) l c refl h
  release_needs false task l c h = h

  new_queue_needs : (setup : Setup) (bound : ℕ) (c : Rig) (every : Bool) → KnowsIf every (view_of setup c) c.waiting → AllUnmet (seen_by every (facts_of c)) c.waiting
      → AllUnmet (seen_by every (facts_of (with_new_queue bound c))) c.waiting
  new_queue_needs setup bound c true k h =
      waits_known (view_of setup c) (facts_of c) (facts_of (with_new_queue bound c)) (new_queue_unmet setup bound c) c.waiting k h
  new_queue_needs setup bound c false k h =
      waits_as (without_events (facts_of c)) (without_events (facts_of (with_new_queue bound c))) c.waiting (new_queue_others bound c) h

  queue_needs : (setup : Setup) (b : Bool) (task : TaskNo) (bound : ℕ) (c : Rig) → KnowsIf all (view_of setup c) c.waiting → Needs c → Needs (makes_queue b task bound c).rig
  queue_needs setup true task bound c k h = h
  queue_needs setup false task bound c k h = new_queue_needs setup bound c all k h

  sets_if_needs : (b : Bool) (e : EventNo) (c : Rig) → Needs c → Needs (sets_if b e c)
  sets_if_needs true e c h = served_waits (seen_by all (facts_of c)) (seen_by all (facts_of (record c { objects = with_set e c.objects }))) (cause.Event e) tt (but_in all (awaited.Event e) _ _ (is_set c e)) c.waiting h
  sets_if_needs false e c h = h

  clears_if_needs : (b : Bool) (e : EventNo) (c : Rig) → Needs c → Needs (clears_if b e c)
  clears_if_needs true e c h = waits_as (seen_by all (facts_of c)) (seen_by all (facts_of (record c { objects = with_unset e c.objects }))) c.waiting (keeps_in all _ _ (is_cleared c e)) h
  clears_if_needs false e c h = h

  flags_need : (a b : Bool) (x y : EventNo) (c : Rig) → Needs c → Needs (clears_if a x (sets_if b y c))
  flags_need a b x y c h = clears_if_needs a x (sets_if b y c) (sets_if_needs b y c h)

  put_item_needs : (full limit : Bool) (task : TaskNo) (q : QueueNo) (item : Value) (c : Rig) → Needs c → Needs (puts_item full limit task q item c).rig
  put_item_needs true limit task q item c h = h
  put_item_needs false true task q item c h = h
  put_item_needs false false task q item c h =
      let old : TaskQueue = queue_at q c.queues in
      flags_need (has_no_room (queue_at q (with_item q item c.queues))) (is_empty old.items) old.space_event old.items_event
      (record c { queues = with_item q item c.queues }) h

  get_item_needs : (task : TaskNo) (q : QueueNo) (items : List Value) (c : Rig) → Needs c → Needs (gets_item task q items c).rig
  get_item_needs task q [] c h = h
  get_item_needs task q (item ∷ items) c h =
      let old : TaskQueue = queue_at q c.queues in
      flags_need (is_empty items) (has_no_room old) old.items_event old.space_event (record c { queues = with_items q items c.queues }) h

  effect_needs : (setup : Setup) (task : TaskNo) (t : Turned) (c : Rig) → KnowsIf all (view_of setup c) c.waiting → Needs c → Needs (effect setup task t c).rig
  effect_needs setup task (turned.Await trig) c k h = awaits_needs task (tree_of trig c.sim.time) (check trig c.sim.time c.sim.region) c h
  effect_needs setup task (turned.Stage sig act) c k h = write_needs (is_end c.sim.region) sig (stages task sig act c) c h h
  effect_needs setup task (turned.Put sig act) c k h = write_needs (is_end c.sim.region) sig (puts setup task sig act c) c h (deposit_needs setup sig act c h)
  effect_needs setup task (turned.Start func args give_way) c k h = starts_needs (is_full c) task (function_at setup.functions func) args give_way c h
  effect_needs setup task (turned.Kill other) c k h = kills_needs (other.0 == task.0) task other c h
  effect_needs setup task turned.NewEvent c k h = event_needs (nat_le event_limit (length c.objects.events)) task c h
  effect_needs setup task (turned.SetEvent e) c k h =
      served_waits (seen_by all (facts_of c)) (seen_by all (facts_of (record c { objects = with_set e c.objects }))) (cause.Event e) tt (but_in all (awaited.Event e) _ _ (is_set c e)) c.waiting h
  effect_needs setup task (turned.ClearEvent e) c k h = waits_as (seen_by all (facts_of c)) (seen_by all (facts_of (record c { objects = with_unset e c.objects }))) c.waiting (keeps_in all _ _ (is_cleared c e)) h
  effect_needs setup task turned.NewLock c k h = lock_needs (nat_le lock_limit (length c.objects.locks)) task c h
  effect_needs setup task (turned.Release l) c k h = release_needs (is_held l c.objects) task l c h
  effect_needs setup task (turned.NewQueue bound) c k h = queue_needs setup (nat_lt event_limit (length c.objects.events + 2)) task bound c k h
  effect_needs setup task (turned.PutNow q item) c k h = put_item_needs (has_no_room (queue_at q c.queues)) (is_at_limit (queue_at q c.queues)) task q item c h
  effect_needs setup task (turned.GetNow q) c k h = get_item_needs task q (queue_at q c.queues).items c h
  effect_needs setup task (turned.Draw low span) c k h = h
  effect_needs setup task (turned.Log level text) c k h = h
  effect_needs setup task (turned.Done v) c k h = end_needs task (Returned v) false c h
  effect_needs setup task (turned.Raised fault) c k h = fails_needs (is_joined task c.waiting) task fault c refl h
  effect_needs setup task turned.Spent c k h = h

  wish_needs : (setup : Setup) (task : TaskNo) (o : Option Turned) (c : Rig) → KnowsIf all (view_of setup c) c.waiting → Needs c → Needs (effect_of setup task o c).rig
  wish_needs setup task None c k h = h
  wish_needs setup task (Some t) c k h = effect_needs setup task t c k h

  -- ---- steps

  stepped_needs : (setup : Setup) (r : Running) (o : Option Task) (c : Rig) → KnowsIf all (view_of setup c) c.waiting → Needs c → Needs (stepped setup r o c).rig
  stepped_needs setup r None c k h = h
  stepped_needs setup r (Some task) c k h =
      let n = next setup.functions task r.given (view_of setup c) in wish_needs setup r.task n.turned (kept r.task n.task c) k h

  after_needs : (setup : Setup) (o : Option Event) (c : Rig) → Needs c → Needs (after_event setup o c).rig
  after_needs setup None c h = h
  after_needs setup (Some e) c h = serve_needs setup e.fired (record c { sim = e.state }) h

  chosen_needs : (setup : Setup) (running : Option Running) (ready : List Entry) (c : Rig) → KnowsIf all (view_of setup c) c.waiting → Needs c → Needs (chosen setup running ready c).rig
  chosen_needs setup (Some r) ready c k h = stepped_needs setup r (task_at r.task c.tasks) c k h
  chosen_needs setup None (e ∷ es) c k h = stepped_needs setup (taken c e) (task_at e.task c.tasks) (resumed e es c) k h
  chosen_needs setup None [] c k h = after_needs setup (event_of setup c) c h

  -- ---- runs

  deadline_needs : (r : Answer ℕ) (c : Rig) → Needs c → Needs (with_deadline r c)
  deadline_needs (Ok steps) c h = h
  deadline_needs (Err kind) c h = h

  limit_needs : (step_fs : ℕ) (limit : Option Limit) (c : Rig) → Needs c → Needs (with_limit step_fs limit c)
  limit_needs step_fs None c h = h
  limit_needs step_fs (Some limit) c h = deadline_needs (limit_steps step_fs limit) c h

  test_needs : (setup : Setup) (case : Case) (r : Answer (List Value)) (c : Rig) → Needs c → Needs (with_test setup case r c)
  test_needs setup case (Ok values) c h = limit_needs setup.flat.step_fs case.time (with_new_task (function_at setup.functions case.function) (TopPlace 0 ∷ values) c) (new_needs (function_at setup.functions case.function) (TopPlace 0 ∷ values) c h)
  test_needs setup case (Err kind) c h = h

begun_needs_in : (setup : Setup) (cases : List Case) (c : Run) → Needs true c.rig → Needs true (begun setup cases c).rig
begun_needs_in setup [] c h = h
begun_needs_in setup (case ∷ cases) c h = test_needs true setup case (values_of case.arguments) c.rig h

planned_needs : (cases : List Case) (c : Run) → Needs true c.rig → Needs true (planned cases c).rig
planned_needs [] c h = h
planned_needs (case ∷ cases) c h = h

in_needs : (setup : Setup) (case : Case) (cases : List Case) (o : Option Outcome) (c : Run) → IsKnown setup c.rig → Needs true c.rig → Needs true (step_in setup case cases o c).rig
in_needs setup case cases (Some outcome) c k h =
    planned_needs (unskipped cases) (with_skips (skipped cases) (judged (reason_of setup.flat case outcome) case c)) tt
in_needs setup case cases None c k h = chosen_needs true setup c.rig.running c.rig.ready c.rig k.parts.waiting_known h

at_needs : (setup : Setup) (p : Place) (c : Run) → IsKnown setup c.rig → Needs true c.rig → Needs true (step_at setup p c).rig
at_needs setup (Begins cases) c k h = begun_needs_in setup (unskipped cases) (with_skips (skipped cases) c) h
at_needs setup (Runs case cases) c k h = in_needs setup case cases c.rig.outcome c k h
at_needs setup (Waits cases) c k h = chosen_needs true setup c.rig.running c.rig.ready c.rig k.parts.waiting_known h
at_needs setup Over c k h = h

module _ (setup : Setup) (sound : IsSoundSetup setup) where
  abbrev KnownInNeed : Run → Type 0
  KnownInNeed c = Holds setup sound c × Needs true c.rig

  step_in_need : (c : Run) → KnownInNeed c → KnownInNeed (step setup c)
  step_in_need c h = (step_holds setup sound c h.0, at_needs setup c.place c h.0.known h.1)

  all_in_need : (seed : ℕ) (cases : List Case) (run : Run) → IsReached setup seed cases run → KnownInNeed run
  all_in_need seed cases run r = reached_each setup KnownInNeed step_in_need seed cases run (start_holds setup sound seed cases, tt) r

-- in each configuration that a run reaches tasks wait for what hasn't come alone
pub reached_needs : (setup : Setup) (seed : ℕ) (cases : List Case) (run : Run) → IsSoundSetup setup → IsReached setup seed cases run → WaitsInNeed run.rig
reached_needs setup seed cases run s r = (all_in_need setup s seed cases run r).1

-- the same but for events, of any setup
pub reached_others : (setup : Setup) (seed : ℕ) (cases : List Case) (run : Run) → IsReached setup seed cases run → WaitsForOthers run.rig
reached_others setup seed cases run r =
    always setup (Needs false) (λ case c h. test_needs false setup case (values_of case.arguments) c h) (λ c h. chosen_needs false setup c.running c.ready c tt h)
    (λ c h. tt) (λ c h. h) seed cases run tt r

-- What is known of the parts of lists is known of the lists.
use Rattle.std.proofs.Common.{◌≡◌, ℕ, zero, suc, ◌<◌, Bool, true, false, List, [], ◌∷◌, ◌++◌, map, Option, None, Some, refl, arith}
use Rattle.std.specs.Prelude.{IfSome, slice_set, slice_index_or, not, filter, cond}
use Rattle.gpi.specs.declared.types.SigId.{SigId}
use Rattle.gpi.specs.declared.types.Write.{Write}
use Rattle.py_value.specs.declared.trigger.LockNo.{LockNo}
use Rattle.py_value.specs.declared.trigger.QueueNo.{QueueNo}
use Rattle.py_value.specs.declared.trigger.TaskNo.{TaskNo}
use Rattle.py_value.specs.declared.value.Value.{Value}
use Rattle.py_evaluate.specs.Attribute.Look.{View, SeenQueue}
use Rattle.py_evaluate.specs.Attribute.Knows.{Knows, KnowsAll, KnowsEvents}
use Rattle.task_queue.specs.Queues.{TaskQueue, fresh, queue_at, holding, with_items, with_item}
use Rattle.run_view.specs.View.{seen}
use Rattle.await_tree.specs.declared.cause.Cause.{Cause}
use Rattle.await_tree.specs.declared.cause.Step.{Step}
use Rattle.await_tree.specs.declared.cause.Step.TheVariants.{Still, Done}
use Rattle.await_tree.specs.Tree.{Tree}
use Rattle.await_tree.specs.Fire.{fire, grant}
use Rattle.await_tree.specs.Steps.{step_of}
use Rattle.run_view.specs.declared.signal_port.staged.Staged.{Staged}
use Rattle.run_view.specs.SignalPort.Staging.{restaged}
use Rattle.std.specs.Prelude.{◌==◌, length}
use Rattle.test_meaning.specs.Body.BodyTrees.{Function}
use Rattle.rig_model.specs.Task.Frame.{Task}
use Rattle.rig_model.specs.Task.Known.{KnowsWhole, KnowsWrite}
use Rattle.await_tree.specs.declared.wait_list.ready.Entry.{Entry}
use Rattle.await_tree.specs.WaitList.Ring.{is_entry_of, without_entry}
use Rattle.await_tree.specs.WaitList.Waiting.{Waiting, is_of, without_task, entry_of, left_of, woken, still_waiting, wants, granted}
use Rattle.await_tree.specs.declared.ended_tasks.ending.Ending.{Ending}
use Rattle.rig_model.specs.Run.Rig.{Rig, Setup, view_of}
use Rattle.rig_model.specs.Run.Effect.{is_numbered}
use Rattle.rig_model.specs.Run.Step.{stored, task_at}
use Rattle.rig_model.specs.Run.Known.{KnowsTree, KnowsTasks, KnowsReady, KnowsWaiting, KnowsEnding, KnowsEndings, KnowsStaged, KnowsQueues}
use Rattle.rig_model.proofs.RunLemmas.Trees.{KnowsStep, fire_known, grant_known, step_known}

module _ (functions : List Function) (v : View) where
  -- ---- tasks

  pub tasks_more : (xs ys : List Task) → KnowsTasks functions v xs → KnowsTasks functions v ys → KnowsTasks functions v (xs ++ ys)
  tasks_more [] ys h k = k
  tasks_more (x ∷ xs) ys h k = (h.0, tasks_more xs ys h.1 k)

  task_kept : (b : Bool) (t : Task) (ts : List Task) → KnowsWhole functions v t → KnowsTasks functions v ts → KnowsTasks functions v (cond b (t ∷ ts) ts)
  task_kept true t ts h k = (h, k)
  task_kept false t ts h k = k

  pub tasks_filtered : (p : Task → Bool) (ts : List Task) → KnowsTasks functions v ts → KnowsTasks functions v (filter p ts)
  tasks_filtered p [] h = tt
  tasks_filtered p (t ∷ ts) h = task_kept (p t) t (filter p ts) h.0 (tasks_filtered p ts h.1)

  one_stored : (b : Bool) (t u : Task) (ts us : List Task) → KnowsWhole functions v t → KnowsWhole functions v u → KnowsTasks functions v ts → KnowsTasks functions v us
      → KnowsTasks functions v (cond b (u ∷ ts) (t ∷ us))
  one_stored true t u ts us h k d e = (k, d)
  one_stored false t u ts us h k d e = (h, e)

  pub tasks_stored : (number : TaskNo) (u : Task) (ts : List Task) → KnowsWhole functions v u → KnowsTasks functions v ts → KnowsTasks functions v (stored number u ts)
  tasks_stored number u [] k h = tt
  tasks_stored number u (t ∷ ts) k h = one_stored (is_numbered number t) t u ts (stored number u ts) h.0 k h.1 (tasks_stored number u ts k h.1)

  one_at : (b : Bool) (t : Task) (o : Option Task) → KnowsWhole functions v t → IfSome o (KnowsWhole functions v) → IfSome (cond b (Some t) o) (KnowsWhole functions v)
  one_at true t o h k = h
  one_at false t o h k = k

  pub at_known : (number : TaskNo) (ts : List Task) → KnowsTasks functions v ts → IfSome (task_at number ts) (KnowsWhole functions v)
  at_known number [] h = tt
  at_known number (t ∷ ts) h = one_at (is_numbered number t) t (task_at number ts) h.0 (at_known number ts h.1)

module _ (v : View) where
  -- ---- the ready list

  pub ready_more : (xs ys : List Entry) → KnowsReady v xs → KnowsReady v ys → KnowsReady v (xs ++ ys)
  ready_more [] ys h k = k
  ready_more (x ∷ xs) ys h k = (h.0, ready_more xs ys h.1 k)

  entry_kept : (b : Bool) (e : Entry) (es : List Entry) → KnowsReady v (e ∷ es) → KnowsReady v es → KnowsReady v (cond b (e ∷ es) es)
  entry_kept true e es h k = h
  entry_kept false e es h k = k

  ready_filtered : (p : Entry → Bool) (es : List Entry) → KnowsReady v es → KnowsReady v (filter p es)
  ready_filtered p [] h = tt
  ready_filtered p (e ∷ es) h = entry_kept (p e) e (filter p es) (h.0, ready_filtered p es h.1) (ready_filtered p es h.1)

  pub ready_without : (task : TaskNo) (es : List Entry) → KnowsReady v es → KnowsReady v (without_entry task es)
  ready_without task es h = ready_filtered (λ (e : Entry). not (is_entry_of task e)) es h

  -- ---- waiting tasks

  pub waiting_more : (xs ys : List Waiting) → KnowsWaiting v xs → KnowsWaiting v ys → KnowsWaiting v (xs ++ ys)
  waiting_more [] ys h k = k
  waiting_more (x ∷ xs) ys h k = (h.0, waiting_more xs ys h.1 k)

  waiting_kept : (b : Bool) (w : Waiting) (ws : List Waiting) → KnowsWaiting v (w ∷ ws) → KnowsWaiting v ws → KnowsWaiting v (cond b (w ∷ ws) ws)
  waiting_kept true w ws h k = h
  waiting_kept false w ws h k = k

  waiting_filtered : (p : Waiting → Bool) (ws : List Waiting) → KnowsWaiting v ws → KnowsWaiting v (filter p ws)
  waiting_filtered p [] h = tt
  waiting_filtered p (w ∷ ws) h = waiting_kept (p w) w (filter p ws) (h.0, waiting_filtered p ws h.1) (waiting_filtered p ws h.1)

  pub waiting_without : (task : TaskNo) (ws : List Waiting) → KnowsWaiting v ws → KnowsWaiting v (without_task task ws)
  waiting_without task ws h = waiting_filtered (λ (w : Waiting). not (is_of task w)) ws h

  entry_known : (task : TaskNo) (s : Step) → KnowsStep v s → KnowsReady v (entry_of task s)
  entry_known task Still h = tt
  entry_known task (Done g) h = (h, tt)

  left_known : (task : TaskNo) (t : Tree) (s : Step) → KnowsTree v t → KnowsWaiting v (left_of task t s)
  left_known task t Still h = (h, tt)
  left_known task t (Done g) h = tt

  pub woken_known : (c : Cause) (ws : List Waiting) → KnowsWaiting v ws → KnowsReady v (woken c ws)
  woken_known c [] h = tt
  woken_known c (w ∷ ws) h =
      ready_more (entry_of w.task (step_of (fire c w.tree))) (woken c ws)
      (entry_known w.task (step_of (fire c w.tree)) (step_known v (fire c w.tree) (fire_known v c w.tree h.0))) (woken_known c ws h.1)

  pub still_known : (c : Cause) (ws : List Waiting) → KnowsWaiting v ws → KnowsWaiting v (still_waiting c ws)
  still_known c [] h = tt
  still_known c (w ∷ ws) h =
      waiting_more (left_of w.task (fire c w.tree) (step_of (fire c w.tree))) (still_waiting c ws)
      (left_known w.task (fire c w.tree) (step_of (fire c w.tree)) (fire_known v c w.tree h.0)) (still_known c ws h.1)

  pub granted_known : (l : LockNo) (ws : List Waiting) → KnowsWaiting v ws → KnowsReady v (granted l ws).entries × KnowsWaiting v (granted l ws).waiting
  granted_known l [] h = (tt, tt)
  granted_known l (w ∷ ws) h = decided (wants l w.tree) refl (granted_known l ws h.1)
    where
      decided : (b : Bool) → wants l w.tree ≡ b → KnowsReady v (granted l ws).entries × KnowsWaiting v (granted l ws).waiting
          → KnowsReady v (granted l (w ∷ ws)).entries × KnowsWaiting v (granted l (w ∷ ws)).waiting
      decided true e k = rw e (
          let t : KnowsTree v (grant l w.tree) = grant_known v l w.tree h.0 in (
            entry_known w.task (step_of (grant l w.tree)) (step_known v (grant l w.tree) t),
            waiting_more (left_of w.task (grant l w.tree) (step_of (grant l w.tree))) ws (left_known w.task (grant l w.tree) (step_of (grant l w.tree)) t) h.1,
          )
          )
      decided false e k = rw e (k.0, (h.0, k.1))

  -- ---- endings

  pub endings_more : (xs ys : List (Option Ending)) → KnowsEndings v xs → KnowsEndings v ys → KnowsEndings v (xs ++ ys)
  endings_more [] ys h k = k
  endings_more (x ∷ xs) ys h k = (h.0, endings_more xs ys h.1 k)

  pub endings_set : (es : List (Option Ending)) (n : ℕ) (e : Ending) → KnowsEndings v es → KnowsEnding v e → KnowsEndings v (slice_set es n (Some e))
  endings_set [] n e h k = tt
  endings_set (x ∷ xs) zero e h k = (k, h.1)
  endings_set (x ∷ xs) (suc n) e h k = (h.0, endings_set xs n e h.1 k)

  pub ending_known : (es : List (Option Ending)) (n : ℕ) → KnowsEndings v es → IfSome (slice_index_or es n None) (KnowsEnding v)
  ending_known [] n h = tt
  ending_known (x ∷ xs) zero h = h.0
  ending_known (x ∷ xs) (suc n) h = ending_known xs n h.1

  -- ---- staged writes

  staged_more : (xs ys : List Staged) → KnowsStaged v xs → KnowsStaged v ys → KnowsStaged v (xs ++ ys)
  staged_more [] ys h k = k
  staged_more (x ∷ xs) ys h k = (h.0, staged_more xs ys h.1 k)

  staged_kept : (b : Bool) (w : Staged) (ws : List Staged) → KnowsStaged v (w ∷ ws) → KnowsStaged v ws → KnowsStaged v (cond b (w ∷ ws) ws)
  staged_kept true w ws h k = h
  staged_kept false w ws h k = k

  staged_filtered : (p : Staged → Bool) (ws : List Staged) → KnowsStaged v ws → KnowsStaged v (filter p ws)
  staged_filtered p [] h = tt
  staged_filtered p (w ∷ ws) h = staged_kept (p w) w (filter p ws) (h.0, staged_filtered p ws h.1) (staged_filtered p ws h.1)

  pub restaged_known : (sig : SigId) (act : Write) (ws : List Staged) → KnowsStaged v ws → KnowsWrite v sig act → KnowsStaged v (restaged sig act ws)
  restaged_known sig act ws h k =
      staged_more (filter (λ (w : Staged). not (w.sig.0 == sig.0)) ws) (record { sig = sig; act = act } ∷ [])
      (staged_filtered (λ (w : Staged). not (w.sig.0 == sig.0)) ws h) (k, tt)

  -- ---- queues

  pub queues_more : (xs ys : List TaskQueue) → KnowsQueues v xs → KnowsQueues v ys → KnowsQueues v (xs ++ ys)
  queues_more [] ys h k = k
  queues_more (x ∷ xs) ys h k = (h.0, queues_more xs ys h.1 k)

  pub items_more : (xs ys : List Value) → KnowsAll v xs → KnowsAll v ys → KnowsAll v (xs ++ ys)
  items_more [] ys h k = k
  items_more (x ∷ xs) ys h k = (h.0, items_more xs ys h.1 k)

  items_at : (qs : List TaskQueue) (n : ℕ) (other : TaskQueue) → KnowsAll v other.items → KnowsQueues v qs → KnowsAll v (slice_index_or qs n other).items
  items_at [] n other k h = k
  items_at (q ∷ qs) zero other k h = h.0.0
  items_at (q ∷ qs) (suc n) other k h = items_at qs n other k h.1

  -- the items of a queue
  pub queue_items_known : (queue : QueueNo) (qs : List TaskQueue) → KnowsQueues v qs → KnowsAll v (queue_at queue qs).items
  queue_items_known queue qs h = items_at qs queue.0 (fresh 0 (record { 0 = 0 }) (record { 0 = 0 })) tt h

  items_set : (qs : List TaskQueue) (n : ℕ) (items : List Value) (other : TaskQueue) → KnowsAll v items → KnowsQueues v qs
      → KnowsQueues v (slice_set qs n (holding items (slice_index_or qs n other)))
  items_set [] n items other k h = tt
  items_set (q ∷ qs) zero items other k h = ((k, h.0.1), h.1)
  items_set (q ∷ qs) (suc n) items other k h = (h.0, items_set qs n items other k h.1)

  pub with_items_known : (queue : QueueNo) (items : List Value) (qs : List TaskQueue) → KnowsAll v items → KnowsQueues v qs → KnowsQueues v (with_items queue items qs)
  with_items_known queue items qs k h = items_set qs queue.0 items (fresh 0 (record { 0 = 0 }) (record { 0 = 0 })) k h

  pub with_item_known : (queue : QueueNo) (item : Value) (qs : List TaskQueue) → Knows v item → KnowsQueues v qs → KnowsQueues v (with_item queue item qs)
  with_item_known queue item qs k h =
      with_items_known queue ((queue_at queue qs).items ++ item ∷ []) qs (items_more (queue_at queue qs).items (item ∷ []) (queue_items_known queue qs h) (k, tt)) h

  -- the events of a queue as it is seen
  pub seen_events : (qs : List TaskQueue) (n : ℕ) (other : SeenQueue) → KnowsQueues v qs → n < length (map seen qs)
      → ((slice_index_or (map seen qs) n other).items_event.0 < length v.events) × ((slice_index_or (map seen qs) n other).space_event.0 < length v.events)
  seen_events [] n other h l = absurd (omega (arith, l))
  seen_events (q ∷ qs) zero other h l = h.0.1
  seen_events (q ∷ qs) (suc n) other h l = seen_events qs n other h.1 (omega (arith, l))

-- what a task sees of queues that are known
pub events_known : (setup : Setup) (c : Rig) → KnowsQueues (view_of setup c) c.queues → KnowsEvents (view_of setup c)
events_known setup c h = λ q l. seen_events (view_of setup c) c.queues q.0 (record { held = 0; is_full = false; items_event = record { 0 = 0 }; space_event = record { 0 = 0 } }) h l

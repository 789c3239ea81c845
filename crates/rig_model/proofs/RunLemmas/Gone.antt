-- What is left of a task that was killed, and of a test that ended.
use Rattle.std.proofs.Common.{◌≡◌, Bool, true, false, List, [], ◌∷◌, ◌++◌, refl}
use Rattle.std.specs.Prelude.{◌||◌, not, filter, cond}
use Rattle.py_value.specs.declared.trigger.TaskNo.{TaskNo}
use Rattle.await_tree.specs.declared.cause.Cause.{Cause}
use Rattle.await_tree.specs.declared.cause.Cause.TheVariants as cause
use Rattle.await_tree.specs.declared.cause.Step.{Step}
use Rattle.await_tree.specs.declared.cause.Step.TheVariants.{Still, Done}
use Rattle.await_tree.specs.Tree.{Tree}
use Rattle.await_tree.specs.Steps.{step_of}
use Rattle.await_tree.specs.Fire.{fire}
use Rattle.rig_model.specs.Task.Frame.{Task}
use Rattle.await_tree.specs.declared.wait_list.ready.Entry.{Entry}
use Rattle.await_tree.specs.WaitList.Ring.{is_entry_of, has_entry, without_entry}
use Rattle.await_tree.specs.WaitList.Waiting.{Waiting, is_of, is_waiting, without_task, entry_of, left_of, woken, still_waiting}
use Rattle.rig_model.specs.Run.Rig.{Rig}
use Rattle.rig_model.specs.Run.Effect.{is_numbered, killed}
use Rattle.rig_model.specs.Run.Case.{ended}
use Rattle.rig_model.specs.Run.Gone.{is_live, IsGone, IsEmpty}

or_first : (a b : Bool) → (a || b) ≡ false → a ≡ false
or_first false b h = refl
or_first true b h = h

or_second : (a b : Bool) → (a || b) ≡ false → b ≡ false
or_second false b h = h
or_second true b h = cc

module _ (task : TaskNo) where
  ready_more : (xs ys : List Entry) → has_entry task xs ≡ false → has_entry task ys ≡ false → has_entry task (xs ++ ys) ≡ false
  ready_more [] ys h k = k
  ready_more (x ∷ xs) ys h k =
      rw (or_first (is_entry_of task x) (has_entry task xs) h) (ready_more xs ys (or_second (is_entry_of task x) (has_entry task xs) h) k)

  waiting_more : (xs ys : List Waiting) → is_waiting task xs ≡ false → is_waiting task ys ≡ false → is_waiting task (xs ++ ys) ≡ false
  waiting_more [] ys h k = k
  waiting_more (x ∷ xs) ys h k =
      rw (or_first (is_of task x) (is_waiting task xs) h) (waiting_more xs ys (or_second (is_of task x) (is_waiting task xs) h) k)

  ready_kept : (b : Bool) (e : Entry) (es : List Entry) → is_entry_of task e ≡ b → has_entry task es ≡ false → has_entry task (cond (not b) (e ∷ es) es) ≡ false
  ready_kept true e es h k = k
  ready_kept false e es h k = rw h k

  ready_none : (es : List Entry) → has_entry task (without_entry task es) ≡ false
  ready_none [] = refl
  ready_none (e ∷ es) = ready_kept (is_entry_of task e) e (without_entry task es) refl (ready_none es)

  waiting_kept : (b : Bool) (w : Waiting) (ws : List Waiting) → is_of task w ≡ b → is_waiting task ws ≡ false → is_waiting task (cond (not b) (w ∷ ws) ws) ≡ false
  waiting_kept true w ws h k = k
  waiting_kept false w ws h k = rw h k

  waiting_none : (ws : List Waiting) → is_waiting task (without_task task ws) ≡ false
  waiting_none [] = refl
  waiting_none (w ∷ ws) = waiting_kept (is_of task w) w (without_task task ws) refl (waiting_none ws)

  live_kept : (b : Bool) (t : Task) (ts : List Task) → is_numbered task t ≡ b → is_live task ts ≡ false → is_live task (cond (not b) (t ∷ ts) ts) ≡ false
  live_kept true t ts h k = k
  live_kept false t ts h k = rw h k

  live_none : (ts : List Task) → is_live task (filter (λ (t : Task). not (is_numbered task t)) ts) ≡ false
  live_none [] = refl
  live_none (t ∷ ts) = live_kept (is_numbered task t) t (filter (λ (t : Task). not (is_numbered task t)) ts) refl (live_none ts)

  -- a cause wakes none but waiting tasks
  entry_none : (s : Step) (w : Waiting) → is_of task w ≡ false → has_entry task (entry_of w.task s) ≡ false
  entry_none Still w h = refl
  entry_none (Done g) w h = rw h refl

  rest_none : (s : Step) (w : Waiting) (t : Tree) → is_of task w ≡ false → is_waiting task (left_of w.task t s) ≡ false
  rest_none Still w t h = rw h refl
  rest_none (Done g) w t h = refl

  woken_none : (c : Cause) (ws : List Waiting) → is_waiting task ws ≡ false → has_entry task (woken c ws) ≡ false
  woken_none c [] h = refl
  woken_none c (w ∷ ws) h =
      ready_more (entry_of w.task (step_of (fire c w.tree))) (woken c ws)
      (entry_none (step_of (fire c w.tree)) w (or_first (is_of task w) (is_waiting task ws) h))
      (woken_none c ws (or_second (is_of task w) (is_waiting task ws) h))

  still_none : (c : Cause) (ws : List Waiting) → is_waiting task ws ≡ false → is_waiting task (still_waiting c ws) ≡ false
  still_none c [] h = refl
  still_none c (w ∷ ws) h =
      waiting_more (left_of w.task (fire c w.tree) (step_of (fire c w.tree))) (still_waiting c ws)
      (rest_none (step_of (fire c w.tree)) w (fire c w.tree) (or_first (is_of task w) (is_waiting task ws) h))
      (still_none c ws (or_second (is_of task w) (is_waiting task ws) h))

  pub killed_gone : (c : Rig) → IsGone task (killed task c)
  killed_gone c =
      let left : List Waiting = without_task task c.waiting in
      record {
        not_ready = ready_more (without_entry task c.ready) (woken (cause.Ended task false) left)
            (ready_none c.ready) (woken_none (cause.Ended task false) left (waiting_none c.waiting));
        not_waiting = still_none (cause.Ended task false) left (waiting_none c.waiting);
        not_live = live_none c.tasks;
      }

pub ended_empty : (c : Rig) → IsEmpty (ended c)
ended_empty c = record {
  tasks = refl;
  endings = refl;
  running = refl;
  ready = refl;
  waiting = refl;
  objects = refl;
  queues = refl;
  staged = refl;
  fired = refl;
  deadline = refl;
  planned = refl;
  outcome = refl;
  awaited = refl;
}

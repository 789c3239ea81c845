-- What is left of tasks that wait for nothing before a first time waits for nothing before it.
use Rattle.std.proofs.Common.{ℕ, Bool, true, false, List, [], ◌∷◌, ◌++◌}
use Rattle.std.specs.Prelude.{not, filter, cond, if◌then◌else◌}
use Rattle.py_value.specs.declared.trigger.TaskNo.{TaskNo}
use Rattle.py_value.specs.declared.trigger.LockNo.{LockNo}
use Rattle.await_tree.specs.declared.cause.Cause.{Cause}
use Rattle.await_tree.specs.declared.cause.Step.{Step}
use Rattle.await_tree.specs.declared.cause.Step.TheVariants.{Still, Done}
use Rattle.await_tree.specs.Tree.{Tree, leaves}
use Rattle.await_tree.specs.Begin.{Facts, begin}
use Rattle.await_tree.specs.Fire.{fire, grant}
use Rattle.await_tree.specs.Steps.{step_of}
use Rattle.await_tree.proofs.Within.{leaves_only_go}
use Rattle.await_tree.specs.WaitList.Waiting.{Waiting, is_of, without_task, tree_keys, keys_of, left_of, still_waiting, wants, Granted, granted, granted_to, behind}
use Rattle.run_laws.proofs.WavesLemmas.Times.{AreSince, none, both, front, back, within_since}

module _ (first : ℕ) where
  abbrev Wait : List Waiting → Type 0
  Wait ws = AreSince first (keys_of ws)

  pub waits_more : (xs ys : List Waiting) → Wait xs → Wait ys → Wait (xs ++ ys)
  waits_more [] ys h k = k
  waits_more (x ∷ xs) ys h k =
      both first (tree_keys x.tree) (keys_of (xs ++ ys)) (front first (tree_keys x.tree) (keys_of xs) h)
      (waits_more xs ys (back first (tree_keys x.tree) (keys_of xs) h) k)

  pub one_waits : (task : TaskNo) (t : Tree) → AreSince first (tree_keys t) → Wait (record { task = task; tree = t } ∷ [])
  one_waits task t h = both first (tree_keys t) [] h (none first)

  wait_kept : (b : Bool) (w : Waiting) (ws : List Waiting) → AreSince first (tree_keys w.tree) → Wait ws → Wait (cond b (w ∷ ws) ws)
  wait_kept true w ws h k = both first (tree_keys w.tree) (keys_of ws) h k
  wait_kept false w ws h k = k

  waits_filtered : (p : Waiting → Bool) (ws : List Waiting) → Wait ws → Wait (filter p ws)
  waits_filtered p [] h = h
  waits_filtered p (w ∷ ws) h =
      wait_kept (p w) w (filter p ws) (front first (tree_keys w.tree) (keys_of ws) h) (waits_filtered p ws (back first (tree_keys w.tree) (keys_of ws) h))

  pub waits_without : (task : TaskNo) (ws : List Waiting) → Wait ws → Wait (without_task task ws)
  waits_without task ws h = waits_filtered (λ (w : Waiting). not (is_of task w)) ws h

  left_waits : (task : TaskNo) (t : Tree) (s : Step) → AreSince first (tree_keys t) → Wait (left_of task t s)
  left_waits task t Still h = one_waits task t h
  left_waits task t (Done g) h = none first

  pub still_waits : (c : Cause) (ws : List Waiting) → Wait ws → Wait (still_waiting c ws)
  still_waits c [] h = h
  still_waits c (w ∷ ws) h =
      waits_more (left_of w.task (fire c w.tree) (step_of (fire c w.tree))) (still_waiting c ws)
      (left_waits w.task (fire c w.tree) (step_of (fire c w.tree))
      (within_since first (leaves (fire c w.tree)) (leaves w.tree) (leaves_only_go.fires c w.tree) (front first (tree_keys w.tree) (keys_of ws) h)))
      (still_waits c ws (back first (tree_keys w.tree) (keys_of ws) h))

  by_wish : (b : Bool) (g h : Granted) → Wait g.waiting → Wait h.waiting → Wait (if b then g else h).waiting
  by_wish true g h k l = k
  by_wish false g h k l = l

  pub granted_waits : (l : LockNo) (ws : List Waiting) → Wait ws → Wait (granted l ws).waiting
  granted_waits l [] h = h
  granted_waits l (w ∷ ws) h =
      let t : AreSince first (tree_keys w.tree) = front first (tree_keys w.tree) (keys_of ws) h in
      let r : Wait ws = back first (tree_keys w.tree) (keys_of ws) h in
      let u : Tree = grant l w.tree in
      by_wish (wants l w.tree) (granted_to w.task u ws) (behind w (granted l ws))
      (waits_more (left_of w.task u (step_of u)) ws
      (left_waits w.task u (step_of u) (within_since first (leaves u) (leaves w.tree) (leaves_only_go.grants l w.tree) t)) r)
      (both first (tree_keys w.tree) (keys_of (granted l ws).waiting) t (granted_waits l ws r))

  pub begun_since : (t : Tree) (f : Facts) → AreSince first (tree_keys t) → AreSince first (tree_keys (begin t f).tree)
  begun_since t f h = within_since first (leaves (begin t f).tree) (leaves t) (leaves_only_go.begins t f) h

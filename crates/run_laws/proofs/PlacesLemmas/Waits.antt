-- What tasks wait for that hasn't come, after some of them were woken.
use Rattle.std.proofs.Common.{◌≡◌, Bool, true, false, List, [], ◌∷◌, ◌++◌}
use Rattle.std.specs.Prelude.{not, filter, cond, if◌then◌else◌}
use Rattle.std.specs.List.{list_any}
use Rattle.py_value.specs.declared.trigger.TaskNo.{TaskNo}
use Rattle.py_value.specs.declared.trigger.LockNo.{LockNo}
use Rattle.await_tree.specs.Begin.{Facts}
use Rattle.await_tree.specs.Fire.{awaits, fire, grant, is_same, reach_of}
use Rattle.await_tree.specs.Steps.{step_of}
use Rattle.await_tree.specs.Tree.{Tree, leaves}
use Rattle.await_tree.specs.declared.cause.Awaited.{Awaited}
use Rattle.await_tree.specs.declared.cause.Cause.{Cause}
use Rattle.await_tree.specs.declared.cause.Step.{Step}
use Rattle.await_tree.specs.declared.cause.Step.TheVariants.{Still, Done}
use Rattle.await_tree.proofs.Within.{leaves_only_go}
use Rattle.await_tree.specs.WaitList.Waiting.{IsNoKey, Waiting, behind, Granted, granted, granted_to, is_of, left_of, still_waiting, wants, without_task}
use Rattle.run_laws.specs.Places.Unmet.{IsUnmet, AreUnmet, AllUnmet}
use Rattle.run_laws.proofs.PlacesLemmas.Leaves.{fire_frees, or_first, or_second, unmet_apart, unmet_as, unmet_within}

module _ (f : Facts) where
  pub waits_more : (xs ys : List Waiting) → AllUnmet f xs → AllUnmet f ys → AllUnmet f (xs ++ ys)
  waits_more [] ys h k = k
  waits_more (x ∷ xs) ys h k = (h.0, waits_more xs ys h.1 k)

  wait_kept : (b : Bool) (w : Waiting) (ws : List Waiting) → AreUnmet f (leaves w.tree) → AllUnmet f ws → AllUnmet f (cond b (w ∷ ws) ws)
  wait_kept true w ws h k = (h, k)
  wait_kept false w ws h k = k

  waits_filtered : (p : Waiting → Bool) (ws : List Waiting) → AllUnmet f ws → AllUnmet f (filter p ws)
  waits_filtered p [] h = tt
  waits_filtered p (w ∷ ws) h = wait_kept (p w) w (filter p ws) h.0 (waits_filtered p ws h.1)

  pub waits_without : (task : TaskNo) (ws : List Waiting) → AllUnmet f ws → AllUnmet f (without_task task ws)
  waits_without task ws h = waits_filtered (λ (w : Waiting). not (is_of task w)) ws h

  pub left_waits : (task : TaskNo) (t : Tree) (s : Step) → AreUnmet f (leaves t) → AllUnmet f (left_of task t s)
  left_waits task t Still h = (h, tt)
  left_waits task t (Done g) h = tt

  -- those whom a cause reaches are woken, or wait for what is left
  pub still_waits : (c : Cause) (ws : List Waiting) → AllUnmet f ws → AllUnmet f (still_waiting c ws)
  still_waits c [] h = tt
  still_waits c (w ∷ ws) h =
      let u : Tree = fire c w.tree in
      waits_more (left_of w.task u (step_of u)) (still_waiting c ws)
      (left_waits w.task u (step_of u) (unmet_within f (leaves u) (leaves w.tree) (leaves_only_go.fires c w.tree) h.0)) (still_waits c ws h.1)

  by_wish : (b : Bool) (g h : Granted) → AllUnmet f g.waiting → AllUnmet f h.waiting → AllUnmet f (if b then g else h).waiting
  by_wish true g h k l = k
  by_wish false g h k l = l

  pub granted_waits : (l : LockNo) (ws : List Waiting) → AllUnmet f ws → AllUnmet f (granted l ws).waiting
  granted_waits l [] h = tt
  granted_waits l (w ∷ ws) h =
      let u : Tree = grant l w.tree in
      by_wish (wants l w.tree) (granted_to w.task u ws) (behind w (granted l ws))
      (waits_more (left_of w.task u (step_of u)) ws
      (left_waits w.task u (step_of u) (unmet_within f (leaves u) (leaves w.tree) (leaves_only_go.grants l w.tree) h.0)) h.1)
      (h.0, granted_waits l ws h.1)

module _ (f g : Facts) where
  pub waits_as : (ws : List Waiting) → ((a : Awaited) → IsUnmet f a → IsUnmet g a) → AllUnmet f ws → AllUnmet g ws
  waits_as [] h k = tt
  waits_as (w ∷ ws) h k = (unmet_as f g (leaves w.tree) h k.0, waits_as ws h k.1)

  -- only what one thing is on has come, and nobody waits for it
  module _ (r : Awaited) (rest : (a : Awaited) → is_same r a ≡ false → IsUnmet f a → IsUnmet g a) where
    pub apart_waits : (ws : List Waiting) → list_any (λ (w : Waiting). awaits r w.tree) ws ≡ false → AllUnmet f ws → AllUnmet g ws
    apart_waits [] n h = tt
    apart_waits (w ∷ ws) n h =
        let more : Bool = list_any (λ (v : Waiting). awaits r v.tree) ws in (
          unmet_apart f g r (leaves w.tree) rest (or_first (awaits r w.tree) more n) h.0,
          apart_waits ws (or_second (awaits r w.tree) more n) h.1,
        )

  -- it has come, and all whom it reaches are served
  module _ (c : Cause) (no_key : IsNoKey c) (rest : (a : Awaited) → is_same (reach_of c) a ≡ false → IsUnmet f a → IsUnmet g a) where
    pub served_waits : (ws : List Waiting) → AllUnmet f ws → AllUnmet g (still_waiting c ws)
    served_waits [] h = tt
    served_waits (w ∷ ws) h =
        let u : Tree = fire c w.tree in
        let old : AreUnmet f (leaves u) = unmet_within f (leaves u) (leaves w.tree) (leaves_only_go.fires c w.tree) h.0 in
        waits_more g (left_of w.task u (step_of u)) (still_waiting c ws)
        (left_waits g w.task u (step_of u) (unmet_apart f g (reach_of c) (leaves u) rest (fire_frees c no_key w.tree) old)) (served_waits ws h.1)

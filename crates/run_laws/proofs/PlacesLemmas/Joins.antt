-- Whoever is joined lives.
use Rattle.std.proofs.Common.{◌≡◌, ◌<◌, Bool, List, [], ◌∷◌, length, Option, Some, IsSome, ap, sym, ◌∙◌, arith, inl, inr}
use Rattle.std.proofs.lemmas.List.{length-map}
use Rattle.std.specs.Prelude.{false, is_some}
use Rattle.py_value.specs.declared.trigger.TaskNo.{TaskNo}
use Rattle.await_tree.specs.Tree.{leaves}
use Rattle.await_tree.specs.declared.cause.Awaited.{Awaited}
use Rattle.await_tree.specs.declared.cause.Awaited.TheVariants as awaited
use Rattle.await_tree.specs.EndedTasks.Endings.{is_done}
use Rattle.await_tree.specs.declared.ended_tasks.ending.Ending.{Ending}
use Rattle.test_meaning.specs.Body.BodyTrees.{Case}
use Rattle.await_tree.specs.WaitList.Waiting.{Waiting}
use Rattle.rig_model.specs.Run.Known.{KnowsAwaited, KnowsWaiting}
use Rattle.rig_model.specs.Run.Rig.{Rig, Setup, facts_of, view_of}
use Rattle.rig_model.specs.Run.Run.{Run}
use Rattle.rig_model.specs.Run.Step.{task_at}
use Rattle.run_laws.specs.Places.Reached.{IsReached, IsSoundSetup}
use Rattle.run_laws.specs.Places.Unmet.{AllJoinLive, AllUnmet, AreUnmet, IsUnmet, JoinsLive, JoinTheLiving}
use Rattle.run_laws.proofs.PlacesLemmas.Counts.{one_false}
use Rattle.run_laws.proofs.PlacesLemmas.Known.{reached_known}
use Rattle.run_laws.proofs.PlacesLemmas.KnownLeaves.{AllKnown, leaves_known}
use Rattle.run_laws.proofs.PlacesLemmas.Places.{ended_at, is_there, reached_well}
use Rattle.run_laws.proofs.PlacesLemmas.Stands.{StandIn, StandWell}
use Rattle.run_laws.proofs.PlacesLemmas.Unmet.{reached_needs}

-- ---- whoever was started and hasn't ended lives

unended_lives : (n : TaskNo) (c : Rig) → n.0 < length c.endings → is_done n c.endings ≡ false → StandWell c → IsSome (task_at n c.tasks)
unended_lives n c l e (inl h) = is_there n c.tasks (omega (arith, h.below n l, one_false (is_done n c.endings) e))
unended_lives n c l e (inr h) =
    let k : StandIn (Some h.writer) c = h.stands in is_there n c.tasks (omega (arith, k.below n l, one_false (is_done n c.endings) e))

module _ (setup : Setup) (c : Rig) (well : StandWell c) where
  leaf_lives : (a : Awaited) → KnowsAwaited (view_of setup c) a → IsUnmet (facts_of c) a → JoinsLive c.tasks a
  leaf_lives (awaited.Key k) h u = tt
  leaf_lives (awaited.Event event) h u = tt
  leaf_lives (awaited.Lock lock) h u = tt
  leaf_lives (awaited.Join task) h u =
      unended_lives task c (omega (arith, h, length-map c.endings (λ (o : Option Ending). is_some o)))
      (sym (ended_at c.endings task.0) ∙ ap (λ (o : Option Bool). is_some o) u) well

  leaves_live : (xs : List Awaited) → AllKnown (view_of setup c) xs → AreUnmet (facts_of c) xs → AllJoinLive c.tasks xs
  leaves_live [] h u = tt
  leaves_live (x ∷ xs) h u = (leaf_lives x h.0 u.0, leaves_live xs h.1 u.1)

  all_live : (ws : List Waiting) → KnowsWaiting (view_of setup c) ws → AllUnmet (facts_of c) ws → JoinTheLiving c.tasks ws
  all_live [] h u = tt
  all_live (w ∷ ws) h u = (leaves_live (leaves w.tree) (leaves_known (view_of setup c) w.tree h.0) u.0, all_live ws h.1 u.1)

-- in each configuration that a run reaches
pub joined_live : (setup : Setup) (seed : _) (cases : List Case) (run : Run) → IsSoundSetup setup → IsReached setup seed cases run → JoinTheLiving run.rig.tasks run.rig.waiting
joined_live setup seed cases run s r =
    all_live setup run.rig (reached_well setup seed cases run r) run.rig.waiting (reached_known setup seed cases run s r).parts.waiting_known
    (reached_needs setup seed cases run s r)

-- A task that waits.
use Rattle.std.proofs.Common.{◌≡◌, ℕ, ◌+◌, ◌<◌, ◌≤◌, Bool, true, false, List, [], ◌∷◌, length, Option, None, Some, refl, ap, sym, ◌∙◌, subst, arith, rules}
use Rattle.std.specs.Prelude.{◌==◌}
use Rattle.std.proofs.lemmas.List.{length-map}
use Rattle.gpi.specs.Content.{Content}
use Rattle.gpi.specs.State.{State}
use Rattle.gpi.specs.declared.types.Region.{Region}
use Rattle.py_value.specs.Trigger.{Trig}
use Rattle.py_value.specs.declared.trigger.TaskNo.{TaskNo}
use Rattle.py_value.specs.declared.value.Fault.{Fault}
use Rattle.await_tree.specs.declared.cause.Given.{Given}
use Rattle.await_tree.specs.declared.cause.Given.TheVariants as given
use Rattle.await_tree.specs.declared.cause.Step.{Step}
use Rattle.await_tree.specs.declared.cause.Step.TheVariants.{Still, Done}
use Rattle.await_tree.specs.Tree.{Tree}
use Rattle.await_tree.specs.Begin.{Begun, begin, made, Knows}
use Rattle.await_tree.specs.Check.{tree_of, check}
use Rattle.await_tree.specs.Steps.{step_of, rest_of}
use Rattle.await_tree.specs.EndedTasks.Endings.{HasStarted, told_given, failed_of}
use Rattle.await_tree.specs.SyncObjects.States.{States}
use Rattle.rig_model.specs.Task.Known.{KnowsGiven}
use Rattle.rig_model.specs.declared.task.task.Turned.TheVariants as turned
use Rattle.await_tree.specs.WaitList.Keys.{AreAsked}
use Rattle.await_tree.specs.WaitList.Waiting.{Waiting, is_waiting, tree_keys}
use Rattle.await_tree.specs.WaitList.Limits.{waiting_limit}
use Rattle.rig_model.specs.Run.Effect.{goes_on, begun_by, awaits_by, waits, effect}
use Rattle.rig_model.specs.Run.Known.{KnowsTree}
use Rattle.rig_model.specs.Run.Rig.{Rig, Setup, facts_of}
use Rattle.rig_model.proofs.RunLemmas.Trees.{tree_known, begin_known, KnowsStep, step_known}
use Rattle.rig_model.specs.Parts.Placed.{times, tasks_waiting, one_if}
use Rattle.rig_model.specs.Parts.Queue.{Queue, Leads}
use Rattle.run_view.specs.Facts.{objects_of}
use Rattle.scheduler.specs.EffectLaws.Stands.{StandsIn}
use Rattle.scheduler.proofs.EffectLawsLemmas.Asked.{begun_asked}
use Rattle.scheduler.proofs.EffectLawsLemmas.Begins.{tree_made, begin_events, still_rest}
use Rattle.scheduler.proofs.EffectLawsLemmas.Places.{few_placed, turn_alone}
use Rattle.scheduler.specs.Parts.{Parts, rig_by}
use Rattle.scheduler.specs.Waits.{KnowsWait}
use Rattle.scheduler.proofs.Leading.{with_objects}

-- ---- places

-- one place is free for the task that has its turn
module _ (task : TaskNo) (c : Rig) (h : StandsIn (Some task) c) where
  pub few_others : length c.ready + length c.waiting < length c.tasks
  few_others = omega (arith, few_placed c.tasks c.endings (Some task) c.ready c.waiting h.placed_are)

  pub few_most : length c.ready + length c.waiting ≤ length c.tasks
  few_most = omega (arith, few_others)

  pub few_wait : length c.waiting < waiting_limit
  few_wait = omega (arith, few_others, h.live)

  none_among : (ws : List Waiting) → times task (tasks_waiting ws) ≡ 0 → is_waiting task ws ≡ false
  none_among [] e = refl
  none_among (w ∷ ws) e = decided (w.task.0 == task.0) refl e (λ k. none_among ws k)
    where
      decided : (b : Bool) → (w.task.0 == task.0) ≡ b → one_if (w.task.0 == task.0) + times task (tasks_waiting ws) ≡ 0
          → (times task (tasks_waiting ws) ≡ 0 → is_waiting task ws ≡ false) → is_waiting task (w ∷ ws) ≡ false
      decided true q s more = absurd (omega (arith, s, ap one_if q))
      decided false q s more = rw q (more (omega (arith, s)))

  pub waits_not : is_waiting task c.waiting ≡ false
  waits_not = none_among c.waiting (omega (arith, turn_alone c.tasks c.endings task c.ready c.waiting h.placed_are task (search rules)))

-- ---- the tree

-- the time and the region that the simulator tells
module _ (trig : Trig) (now : ℕ) (region : Region) (k : Content) (at : now ≡ k.state.time) (there : region ≡ k.state.region) where
  pub check_now : check trig now region ≡ check trig k.state.time k.state.region
  check_now = ap (λ (n : ℕ). check trig n region) at ∙ ap (λ (r : Region). check trig k.state.time r) there

  pub tree_now : (t : Tree) → t ≡ tree_of trig now → t ≡ tree_of trig k.state.time
  tree_now t e = e ∙ ap (tree_of trig) at

module _ (c : Rig) (trig : Trig) (w : KnowsWait c trig) (t : Tree) (is : t ≡ tree_of trig c.sim.time) where
  known : KnowsTree w.view t
  known = subst (λ (x : Tree). KnowsTree w.view x) (sym is) (tree_known w.view trig c.sim.time w.known)

  pub tree_knows : Knows (made (facts_of c)) t
  tree_knows = tree_made w.view (made (facts_of c)) w.events w.locks (omega (arith, w.ended, length-map c.endings failed_of)) t known

  -- a join that is done is of a task that was started
  pub done_started : (g : Given) → Done g ≡ step_of (begin t (facts_of c)).tree → HasStarted g c.endings
  done_started g e =
      let b : Tree = (begin t (facts_of c)).tree in
      by_given g (subst (λ (s : Step). KnowsStep w.view s) (sym e) (step_known w.view b (begin_known w.view t (facts_of c) known)))
    where
      by_given : (g : Given) → KnowsGiven w.view g → HasStarted g c.endings
      by_given given.Begin h = tt
      by_given (given.Value v) h = tt
      by_given (given.Fault f) h = tt
      by_given (given.Joined u) h = omega (arith, h, w.ended)

  -- what waits
  module _ (t' : Tree) (still : Still ≡ step_of (begin t (facts_of c)).tree) (rest : t' ≡ rest_of (begin t (facts_of c)).tree) where
    pub left_is : t' ≡ (begin t (facts_of c)).tree
    left_is = rest ∙ still_rest (begin t (facts_of c)).tree (sym still)

    pub left_asked : (k : Content) → k.state ≡ c.sim → check trig k.state.time k.state.region ≡ None → AreAsked k (tree_keys t')
    left_asked k e good =
        subst (λ (x : Tree). AreAsked k (tree_keys x)) (sym (left_is ∙ ap (λ (x : Tree). (begin x (facts_of c)).tree) (is ∙ ap (λ (x : State). tree_of trig x.time) (sym e))))
        (begun_asked k w.view trig (facts_of c) (ap (λ (x : State). length x.signals) e ∙ w.signals) w.known good)

-- ---- where it leads

module _ (setup : Setup) (task : TaskNo) (trig : Trig) (p : Parts) (q : Queue) (k : Content) where
  module _ (good : check trig k.state.time k.state.region ≡ None) (t : Tree) (is : t ≡ tree_of trig k.state.time) (objects : States)
      (own : objects ≡ objects_of (begin t (facts_of (rig_by p q k))).facts) where
    abbrev begun : Begun
    begun = begin t (facts_of (rig_by p q k))

    abbrev locked : States
    locked = record p.objects { locks = begun.facts.locks }

    same_objects : locked ≡ objects
    same_objects =
        ap (λ (es : List Bool). (let o : States = record { events = es; locks = begun.facts.locks } in o)) (sym (begin_events t (facts_of (rig_by p q k)))) ∙ sym own

    begins_here : (effect setup task (turned.Await trig) (rig_by p q k)).rig ≡ (begun_by task begun.tree (step_of begun.tree) (rig_by (with_objects locked p) q k)).rig
    begins_here =
        ap (λ (o : Option Fault). (awaits_by task (tree_of trig k.state.time) o (rig_by p q k)).rig) good
        ∙ ap (λ (x : Tree). (awaits_by task x None (rig_by p q k)).rig) (sym is)

    pub wait_done : (g : Given) → Done g ≡ step_of (begin t (facts_of (rig_by p q k))).tree
        → (effect setup task (turned.Await trig) (rig_by p q k)).rig ≡ goes_on task (Some (told_given g p.endings)) (rig_by (with_objects objects p) q k)
    wait_done g e =
        begins_here
        ∙ ap (λ (s : Step). (begun_by task begun.tree s (rig_by (with_objects locked p) q k)).rig) (sym e)
        ∙ ap (λ (o : States). goes_on task (Some (told_given g p.endings)) (rig_by (with_objects o p) q k)) same_objects

    pub wait_still : (t' : Tree) (q' : Queue) (k' : Content) → Still ≡ step_of (begin t (facts_of (rig_by p q k))).tree
        → t' ≡ (begin t (facts_of (rig_by p q k))).tree → Leads (waits task t') q k q' k'
        → (effect setup task (turned.Await trig) (rig_by p q k)).rig ≡ rig_by (with_objects objects p) q' k'
    wait_still t' q' k' e left l =
        begins_here
        ∙ ap (λ (s : Step). (begun_by task begun.tree s (rig_by (with_objects locked p) q k)).rig) (sym e)
        ∙ ap (λ (o : States). waits task begun.tree (rig_by (with_objects o p) q k)) same_objects
        ∙ ap (λ (x : Tree). waits task x (rig_by (with_objects objects p) q k)) (sym left)
        ∙ l (rig_by (with_objects objects p) q k)

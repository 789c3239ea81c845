-- Steps that fit a fuel, as steps of a run.
use Rattle.std.proofs.Common.{◌≡◌, ℕ, zero, suc, ◌+◌, ◌-◌, ◌<◌, ◌≤◌, Bool, true, false, List, [], ◌++◌, Option, None, Some, refl, ap, sym, subst, ◌∙◌, arith, rules, append_assoc, append-nil}
use Rattle.std.specs.Prelude.{nat_le, is_some}
use Rattle.test_meaning.specs.Body.BodyTrees.{Case}
use Rattle.rig_model.specs.Run.Rig.{Rig, Setup}
use Rattle.rig_model.specs.Run.Step.{Stepped, rig_step}
use Rattle.rig_model.specs.Run.Run.{Place, Runs, Waits, Run, cost_in, goes, place_by, step, step_in, steps}
use Rattle.rig_model.specs.declared.run.outcome.Outcome.{Outcome}
use Rattle.rig_model.specs.declared.run.outcome.Verdict.{Verdict}
use Rattle.rig_model.proofs.RunLemmas.Whole.{steps_one}
use Rattle.rig_model.specs.Parts.Steps.{FitSteps, SameRest, SameTasks, Short, TurnSteps, anywhere, in_turn}
use Rattle.rig_model.specs.Parts.Runs.{RunsOn, StopsAt, is_planned}

-- ---- steps one after another

fit_anywhere : (from : Rig → Bool) (setup : Setup) (n fuel : ℕ) (c : Rig) (lines : List (List ℕ)) (left : ℕ) (d : Rig)
    → FitSteps from setup n fuel c lines left d → FitSteps anywhere setup n fuel c lines left d
unfolding FitSteps
fit_anywhere from setup zero fuel c lines left d h = h
fit_anywhere from setup (suc n) fuel c lines left d h =
    (h.0, refl, h.2, h.3, h.4, fit_anywhere from setup n (fuel - (rig_step setup c).cost) (rig_step setup c).rig h.0 left d h.5)

pub turn_anywhere : (setup : Setup) (n fuel : ℕ) (c : Rig) (lines : List (List ℕ)) (left : ℕ) (d : Rig)
    → TurnSteps setup n fuel c lines left d → FitSteps anywhere setup n fuel c lines left d
unfolding FitSteps TurnSteps
turn_anywhere setup zero fuel c lines left d h = h
turn_anywhere setup (suc n) fuel c lines left d h =
    (h.0, refl, h.1, h.2, h.3, fit_anywhere in_turn setup n (fuel - (rig_step setup c).cost) (rig_step setup c).rig h.0 left d h.4)

pub fit_then : (from : Rig → Bool) (setup : Setup) (j k fuel : ℕ) (c : Rig) (xs : List (List ℕ)) (f : ℕ) (d : Rig) (ys : List (List ℕ)) (g : ℕ) (e : Rig)
    → FitSteps from setup j fuel c xs f d → FitSteps from setup k f d ys g e → FitSteps from setup (j + k) fuel c (xs ++ ys) g e
unfolding FitSteps
fit_then from setup zero k fuel c xs f d ys g e p q = let z : zero + k ≡ k = omega arith in rw (z, p.0, ← p.1, ← p.2) q
fit_then from setup (suc j) k fuel c xs f d ys g e p q =
    let s : suc (j + k) ≡ suc j + k = omega arith in
    subst (λ (n : ℕ). FitSteps from setup n fuel c (xs ++ ys) g e) s (
      p.0 ++ ys,
      p.1,
      p.2,
      p.3,
      ap (λ (zs : List (List ℕ)). zs ++ ys) p.4 ∙ append_assoc (rig_step setup c).lines p.0 ys,
      fit_then from setup j k (fuel - (rig_step setup c).cost) (rig_step setup c).rig p.0 f d ys g e p.5 q,
    )

pub turn_then : (setup : Setup) (j k fuel : ℕ) (c : Rig) (xs : List (List ℕ)) (f : ℕ) (d : Rig) (ys : List (List ℕ)) (g : ℕ) (e : Rig)
    → TurnSteps setup (suc j) fuel c xs f d → FitSteps in_turn setup k f d ys g e → TurnSteps setup (suc j + k) fuel c (xs ++ ys) g e
unfolding FitSteps TurnSteps
turn_then setup j k fuel c xs f d ys g e p q =
    let s : suc (j + k) ≡ suc j + k = omega arith in
    subst (λ (n : ℕ). TurnSteps setup n fuel c (xs ++ ys) g e) s (
      p.0 ++ ys,
      p.1,
      p.2,
      ap (λ (zs : List (List ℕ)). zs ++ ys) p.3 ∙ append_assoc (rig_step setup c).lines p.0 ys,
      fit_then in_turn setup j k (fuel - (rig_step setup c).cost) (rig_step setup c).rig p.0 f d ys g e p.4 q,
    )

-- ---- numbers

within : (a b : ℕ) → nat_le a b ≡ true → a ≤ b
within a b h = search rules

le_true : (a b : ℕ) → a ≤ b → nat_le a b ≡ true
le_true a b h = search rules

le_false : (a b : ℕ) → b < a → nat_le a b ≡ false
le_false a b h = search rules

-- a run that stands there
abbrev run_at : List Verdict → Place → Rig → List (List ℕ) → ℕ → Run
run_at verdicts place rig lines cost = record { rig = rig; place = place; lines = lines; verdicts = verdicts; cost = cost }

as_run : (run : Run) (place : Place) → run.place ≡ place → run ≡ run_at run.verdicts place run.rig run.lines run.cost
as_run run place h = ap (λ (p : Place). run_at run.verdicts p run.rig run.lines run.cost) h

module _ (setup : Setup) (budget : ℕ) (verdicts : List Verdict) where
  -- From a run that stands there so many steps lead on.
  abbrev Comes : ℕ → Run → Place → Rig → List (List ℕ) → ℕ → Type 0
  Comes n run place rig lines left = (cost : ℕ) × (cost + left ≡ budget) × (steps setup budget n run ≡ run_at verdicts place rig lines cost)

  -- a step, and then others
  step_comes : (n : ℕ) (run next : Run) (place : Place) (rig : Rig) (lines : List (List ℕ)) (left : ℕ)
      → goes setup budget run ≡ true → step setup run ≡ next → Comes n next place rig lines left → Comes (suc n) run place rig lines left
  step_comes n run next place rig lines left g is c = (c.0, c.1, steps_one setup budget n run g ∙ ap (steps setup budget n) is ∙ c.2)

  -- none
  none_comes : (place : Place) (rig : Rig) (lines : List (List ℕ)) (cost fuel : ℕ) (more : List (List ℕ)) (left : ℕ) (d : Rig)
      → cost + fuel ≡ budget → more ≡ [] → left ≡ fuel → d ≡ rig → Comes zero (run_at verdicts place rig lines cost) place d (lines ++ more) left
  unfolding steps
  none_comes place rig lines cost fuel more left d e m l r = (cost, rw l e, rw (m, r, append-nil) refl)

  -- ---- within a test

  module _ (case : Case) (cases : List Case) where
    abbrev in_test : Rig → List (List ℕ) → ℕ → Run
    in_test rig lines cost = run_at verdicts (Runs case cases) rig lines cost

    test_goes : (rig : Rig) (lines : List (List ℕ)) (cost fuel : ℕ)
        → rig.outcome ≡ None → (rig_step setup rig).cost ≤ fuel → cost + fuel ≡ budget → goes setup budget (in_test rig lines cost) ≡ true
    test_goes rig lines cost fuel o h e =
        ap (λ (x : Option Outcome). nat_le (cost + cost_in setup x (in_test rig lines cost)) budget) o ∙ le_true (cost + (rig_step setup rig).cost) budget (omega arith)

    test_stops : (rig : Rig) (lines : List (List ℕ)) (cost fuel : ℕ)
        → rig.outcome ≡ None → fuel < (rig_step setup rig).cost → cost + fuel ≡ budget → goes setup budget (in_test rig lines cost) ≡ false
    test_stops rig lines cost fuel o h e =
        ap (λ (x : Option Outcome). nat_le (cost + cost_in setup x (in_test rig lines cost)) budget) o ∙ le_false (cost + (rig_step setup rig).cost) budget (omega arith)

    pub test_steps : (from : Rig → Bool) (n : ℕ) (rig : Rig) (lines : List (List ℕ)) (cost fuel : ℕ) (more : List (List ℕ)) (left : ℕ) (d : Rig)
        → cost + fuel ≡ budget → FitSteps from setup n fuel rig more left d → Comes n (in_test rig lines cost) (Runs case cases) d (lines ++ more) left
    unfolding FitSteps
    test_steps from zero rig lines cost fuel more left d e w = none_comes (Runs case cases) rig lines cost fuel more left d e w.0 w.1 w.2
    test_steps from (suc n) rig lines cost fuel more left d e w =
        let s : Stepped = rig_step setup rig in
        let k : s.cost ≤ fuel = w.3 in
        let rest : Comes n (in_test s.rig (lines ++ s.lines) (cost + s.cost)) (Runs case cases) d ((lines ++ s.lines) ++ w.0) left
        = test_steps from n s.rig (lines ++ s.lines) (cost + s.cost) (fuel - s.cost) w.0 left d (omega arith) w.5 in
        step_comes n (in_test rig lines cost) (in_test s.rig (lines ++ s.lines) (cost + s.cost)) (Runs case cases) d (lines ++ more) left
        (test_goes rig lines cost fuel w.2 w.3 e)
        (ap (λ (o : Option Outcome). step_in setup case cases o (in_test rig lines cost)) w.2)
        (subst (λ (ls : List (List ℕ)). Comes n (in_test s.rig (lines ++ s.lines) (cost + s.cost)) (Runs case cases) d ls left)
        (append_assoc lines s.lines w.0 ∙ ap (λ (ls : List (List ℕ)). lines ++ ls) (sym w.4)) rest)

  -- ---- between two tests

  module _ (cases : List Case) where
    -- the start is planned, or has fired
    abbrev in_wait : Rig → List (List ℕ) → ℕ → Run
    in_wait rig lines cost = run_at verdicts (place_by rig.planned cases) rig lines cost

    waits : (planned : Option ℕ) → is_some planned ≡ true → place_by planned cases ≡ Waits cases
    waits None h = cc
    waits (Some time) h = refl

    pub wait_steps : (n : ℕ) (rig : Rig) (lines : List (List ℕ)) (cost fuel : ℕ) (more : List (List ℕ)) (left : ℕ) (d : Rig)
        → cost + fuel ≡ budget → FitSteps is_planned setup n fuel rig more left d → Comes n (in_wait rig lines cost) (place_by d.planned cases) d (lines ++ more) left
    unfolding FitSteps
    wait_steps zero rig lines cost fuel more left d e w =
        subst (λ (place : Place). Comes zero (in_wait rig lines cost) place d (lines ++ more) left) (ap (λ (c : Rig). place_by c.planned cases) (sym w.2))
        (none_comes (place_by rig.planned cases) rig lines cost fuel more left d e w.0 w.1 w.2)
    wait_steps (suc n) rig lines cost fuel more left d e w =
        let s : Stepped = rig_step setup rig in
        let k : s.cost ≤ fuel = w.3 in
        let here : place_by rig.planned cases ≡ Waits cases = waits rig.planned w.1 in
        let rest : Comes n (in_wait s.rig (lines ++ s.lines) (cost + s.cost)) (place_by d.planned cases) d ((lines ++ s.lines) ++ w.0) left
        = wait_steps n s.rig (lines ++ s.lines) (cost + s.cost) (fuel - s.cost) w.0 left d (omega arith) w.5 in
        step_comes n (in_wait rig lines cost) (in_wait s.rig (lines ++ s.lines) (cost + s.cost)) (place_by d.planned cases) d (lines ++ more) left
        (ap (λ (place : Place). goes setup budget (run_at verdicts place rig lines cost)) here ∙ le_true (cost + s.cost) budget (omega arith))
        (ap (λ (place : Place). step setup (run_at verdicts place rig lines cost)) here)
        (subst (λ (ls : List (List ℕ)). Comes n (in_wait s.rig (lines ++ s.lines) (cost + s.cost)) (place_by d.planned cases) d ls left)
        (append_assoc lines s.lines w.0 ∙ ap (λ (ls : List (List ℕ)). lines ++ ls) (sym w.4)) rest)

-- ---- steps of any run

module _ (setup : Setup) (budget fuel : ℕ) (run : Run) where
  runs_on : (n : ℕ) (place place' : Place) (lines : List (List ℕ)) (left : ℕ) (d : Rig) → run.place ≡ place
      → Comes setup budget run.verdicts n (run_at run.verdicts place run.rig run.lines run.cost) place' d (run.lines ++ lines) left
      → RunsOn setup budget n run place' lines left d
  runs_on n place place' lines left d h c = record {
    cost = c.0;
    leaves = c.1;
    reached = ap (steps setup budget n) (as_run run place h) ∙ c.2;
  }

  pub test_runs_on : (from : Rig → Bool) (n : ℕ) (case : Case) (cases : List Case) (lines : List (List ℕ)) (left : ℕ) (d : Rig)
      → run.place ≡ Runs case cases → run.cost + fuel ≡ budget → FitSteps from setup n fuel run.rig lines left d → RunsOn setup budget n run (Runs case cases) lines left d
  test_runs_on from n case cases lines left d h e w =
      runs_on n (Runs case cases) (Runs case cases) lines left d h (test_steps setup budget run.verdicts case cases from n run.rig run.lines run.cost fuel lines left d e w)

  pub wait_runs_on : (n : ℕ) (cases : List Case) (lines : List (List ℕ)) (left : ℕ) (d : Rig)
      → run.place ≡ place_by run.rig.planned cases → run.cost + fuel ≡ budget → FitSteps is_planned setup n fuel run.rig lines left d
      → RunsOn setup budget n run (place_by d.planned cases) lines left d
  wait_runs_on n cases lines left d h e w =
      runs_on n (place_by run.rig.planned cases) (place_by d.planned cases) lines left d h
      (wait_steps setup budget run.verdicts cases n run.rig run.lines run.cost fuel lines left d e w)

  -- where a run goes on, its step fits
  step_within : (case : Case) (cases : List Case) → run.place ≡ Runs case cases → run.cost + fuel ≡ budget → run.rig.outcome ≡ None → goes setup budget run ≡ true
      → (rig_step setup run.rig).cost ≤ fuel
  step_within case cases h e o g =
      let in_test : Run = run_at run.verdicts (Runs case cases) run.rig run.lines run.cost in
      let goes_on : nat_le (run.cost + cost_in setup run.rig.outcome in_test) budget ≡ true = sym (ap (goes setup budget) (as_run run (Runs case cases) h)) ∙ g in
      let fits : nat_le (run.cost + (rig_step setup run.rig).cost) budget ≡ true
      = sym (ap (λ (x : Option Outcome). nat_le (run.cost + cost_in setup x in_test) budget) o) ∙ goes_on in
      let few : run.cost + (rig_step setup run.rig).cost ≤ budget = within (run.cost + (rig_step setup run.rig).cost) budget fits in
      omega arith

  pub one_fits : (from : Rig → Bool) (case : Case) (cases : List Case)
      → run.place ≡ Runs case cases → run.cost + fuel ≡ budget → run.rig.outcome ≡ None → goes setup budget run ≡ true → from run.rig ≡ true
      → (left : ℕ) × FitSteps from setup 1 fuel run.rig (rig_step setup run.rig).lines left (rig_step setup run.rig).rig
  unfolding FitSteps
  one_fits from case cases h e o g p =
      (fuel - (rig_step setup run.rig).cost, ([], p, o, step_within case cases h e o g, sym (append-nil (rig_step setup run.rig).lines), (refl, refl, refl)))

  pub one_turns : (case : Case) (cases : List Case)
      → run.place ≡ Runs case cases → run.cost + fuel ≡ budget → run.rig.outcome ≡ None → goes setup budget run ≡ true
      → (left : ℕ) × TurnSteps setup 1 fuel run.rig (rig_step setup run.rig).lines left (rig_step setup run.rig).rig
  unfolding FitSteps TurnSteps
  one_turns case cases h e o g =
      (fuel - (rig_step setup run.rig).cost, ([], o, step_within case cases h e o g, sym (append-nil (rig_step setup run.rig).lines), (refl, refl, refl)))

  -- what stays when a turn is broken off
  kept_is : (d e : Rig) → SameRest d e → SameTasks d e → d ≡ record e { running = d.running; ready = d.ready; outcome = d.outcome }
  kept_is d e r t = rw (← r.sim, ← t.tasks, ← r.endings, ← r.waiting, ← r.objects, ← r.queues, ← r.staged, ← r.fired, ← r.deadline, ← r.planned, ← r.random, ← r.counts) refl

  pub short_stops : (from : Rig → Bool) (case : Case) (cases : List Case) (lines : List (List ℕ)) (left : ℕ) (e : Rig)
      → run.place ≡ Runs case cases → run.cost + fuel ≡ budget → Short (FitSteps from setup) setup fuel run.rig lines left e → StopsAt setup budget run lines e
  short_stops from case cases lines left e h b s =
      let r : RunsOn setup budget s.count run (Runs case cases) lines left s.last = test_runs_on from s.count case cases lines left s.last h b s.steps in
      record {
        count = s.count;
        last = run_at run.verdicts (Runs case cases) s.last (run.lines ++ lines) r.cost;
        reached = r.reached;
        stopped = test_stops setup budget run.verdicts case cases s.last (run.lines ++ lines) r.cost left s.no_fit.runs s.no_fit.short r.leaves;
        is_open = refl;
        written = refl;
        rig_is = kept_is s.last e s.no_fit.rest s.no_fit.tasks;
      }

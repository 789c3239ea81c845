-- Steps of a test and of the wait for the next one, as steps of a run.
use Rattle.std.proofs.Common.{◌≡◌, ℕ, zero, suc, ◌+◌, ◌-◌, ◌≤◌, ◌<◌, Bool, true, false, List, [], ◌∷◌, ◌++◌, Option, None, Some, refl, ap, sym, subst, ◌∙◌, arith, rules, append_assoc, append-nil}
use Rattle.std.specs.Prelude.{nat_le, is_some}
use Rattle.test_meaning.specs.Body.BodyTrees.{Case}
use Rattle.rig_model.specs.Run.Rig.{Rig, Setup}
use Rattle.rig_model.specs.Run.Step.{Stepped, rig_step}
use Rattle.rig_model.specs.Run.Line.{budget_line}
use Rattle.rig_model.specs.Run.Verdict.{reason_of}
use Rattle.rig_model.specs.Run.Run.{Place, Begins, Waits, Run, skipped, unskipped, with_skips, closed, begun, planned, judged, test_ended, is_over, within, step, step_in, cost_in, place_by, placed, goes, steps, opening, written, IsRun, IsStart}
use Rattle.rig_model.specs.declared.run.outcome.Outcome.{Outcome}
use Rattle.rig_model.specs.declared.run.outcome.Verdict.{Verdict}
use Rattle.rig_model.proofs.RunLemmas.Whole.{steps_one}
use Rattle.rig_model.specs.Parts.Steps.{FitSteps, anywhere}
use Rattle.command.specs.Regression.Reached.{Reached, Pending, run_at, run_in}
use Rattle.rig_model.specs.Parts.Runs.{is_planned}

le_true : (a b : ℕ) → a ≤ b → nat_le a b ≡ true
le_true a b h = search rules

le_false : (a b : ℕ) → b < a → nat_le a b ≡ false
le_false a b h = search rules

module _ (setup : Setup) (seed : ℕ) (all : List Case) (budget : ℕ) where
  -- steps, and then others
  steps_then : (j k : ℕ) (c : Run) → (n : ℕ) × (steps setup budget n c ≡ steps setup budget k (steps setup budget j c))
  unfolding steps
  steps_then zero k c = (k, refl)
  steps_then (suc j) k c = decided (goes setup budget c) refl (steps_then j k (step setup c))
    where
      decided : (b : Bool) → goes setup budget c ≡ b → ((n : ℕ) × (steps setup budget n (step setup c) ≡ steps setup budget k (steps setup budget j (step setup c))))
          → (n : ℕ) × (steps setup budget n c ≡ steps setup budget k (steps setup budget (suc j) c))
      decided true h more = (suc more.0, rw h more.1)
      decided false h more = (k, rw h refl)

  abbrev pub Gets : Run → Type 0
  Gets c = Reached setup seed all budget c

  abbrev pub Next : List Case → Run → Type 0
  Next rest c = Pending setup seed all budget rest c

  reached_more : (n : ℕ) (c d : Run) → Gets c → steps setup budget n c ≡ d → Gets d
  reached_more n c d r e =
      let t : (m : ℕ) × (steps setup budget m (opening setup seed all) ≡ steps setup budget n (steps setup budget r.count (opening setup seed all)))
      = steps_then r.count n (opening setup seed all) in
      record { count = t.0; is = t.1 ∙ ap (steps setup budget n) r.is ∙ e }

  pub reached_step : (c d : Run) → Gets c → goes setup budget c ≡ true → step setup c ≡ d → Gets d
  unfolding steps
  reached_step c d r g e = reached_more 1 c d r (steps_one setup budget 0 c g ∙ e)

  pub reached_as : (c d : Run) → c ≡ d → Gets c → Gets d
  reached_as c d e r = record { count = r.count; is = r.is ∙ e }

  -- ---- within a test

  module _ (case : Case) (cases : List Case) (verdicts : List Verdict) where
    abbrev pub in_test : Rig → List (List ℕ) → ℕ → Run
    in_test rig lines cost = run_in case cases verdicts rig lines cost

    goes_in : (rig : Rig) (lines : List (List ℕ)) (cost fuel : ℕ)
        → rig.outcome ≡ None → (rig_step setup rig).cost ≤ fuel → cost + fuel ≡ budget → goes setup budget (in_test rig lines cost) ≡ true
    goes_in rig lines cost fuel o h e =
        ap (λ (x : Option Outcome). nat_le (cost + cost_in setup x (in_test rig lines cost)) budget) o ∙ le_true (cost + (rig_step setup rig).cost) budget (omega arith)

    fit_steps : (n : ℕ) (rig : Rig) (lines : List (List ℕ)) (cost fuel : ℕ) (more : List (List ℕ)) (fuel' : ℕ) (d : Rig)
        → FitSteps anywhere setup n fuel rig more fuel' d → cost + fuel ≡ budget
        → (cost' : ℕ) × (cost' + fuel' ≡ budget) × (steps setup budget n (in_test rig lines cost) ≡ in_test d (lines ++ more) cost')
    unfolding FitSteps steps
    fit_steps zero rig lines cost fuel more fuel' d w e = (cost, rw w.1 e, rw (w.0, w.2, append-nil) refl)
    fit_steps (suc n) rig lines cost fuel more fuel' d w e =
        let s : Stepped = rig_step setup rig in
        let k : s.cost ≤ fuel = w.3 in
        let g : goes setup budget (in_test rig lines cost) ≡ true = goes_in rig lines cost fuel w.2 w.3 e in
        let next_is : step setup (in_test rig lines cost) ≡ in_test s.rig (lines ++ s.lines) (cost + s.cost)
        = ap (λ (o : Option Outcome). step_in setup case cases o (in_test rig lines cost)) w.2 in
        let r : (cost' : ℕ) × (cost' + fuel' ≡ budget) × (steps setup budget n (in_test s.rig (lines ++ s.lines) (cost + s.cost)) ≡ in_test d ((lines ++ s.lines) ++ w.0) cost')
        = fit_steps n s.rig (lines ++ s.lines) (cost + s.cost) (fuel - s.cost) w.0 fuel' d w.5 (omega arith) in (
          r.0,
          r.1,
          steps_one setup budget n (in_test rig lines cost) g
              ∙ ap (steps setup budget n) next_is
              ∙ r.2
              ∙ ap (λ (ls : List (List ℕ)). in_test d ls r.0) (append_assoc lines s.lines w.0 ∙ ap (λ (ls : List (List ℕ)). lines ++ ls) (sym w.4)),
        )

    -- steps within the test
    pub reached_steps : (n : ℕ) (rig : Rig) (lines : List (List ℕ)) (cost fuel : ℕ) (more : List (List ℕ)) (fuel' : ℕ) (d : Rig)
        → Gets (in_test rig lines cost) → cost + fuel ≡ budget → FitSteps anywhere setup n fuel rig more fuel' d
        → (cost' : ℕ) × (cost' + fuel' ≡ budget) × Gets (in_test d (lines ++ more) cost')
    reached_steps n rig lines cost fuel more fuel' d r e w =
        let t : (cost' : ℕ) × (cost' + fuel' ≡ budget) × (steps setup budget n (in_test rig lines cost) ≡ in_test d (lines ++ more) cost')
        = fit_steps n rig lines cost fuel more fuel' d w e in
        (t.0, t.1, reached_more n (in_test rig lines cost) (in_test d (lines ++ more) t.0) r t.2)

    -- the test ends
    pub reached_end : (rig : Rig) (lines : List (List ℕ)) (cost fuel : ℕ) (o : Outcome)
        → Gets (in_test rig lines cost) → cost + fuel ≡ budget → rig.outcome ≡ Some o → Gets (test_ended setup case cases o (in_test rig lines cost))
    reached_end rig lines cost fuel o r e h =
        reached_step (in_test rig lines cost) (test_ended setup case cases o (in_test rig lines cost)) r
        (ap (λ (x : Option Outcome). nat_le (cost + cost_in setup x (in_test rig lines cost)) budget) h ∙ le_true (cost + 0) budget (omega arith))
        (ap (λ (x : Option Outcome). step_in setup case cases x (in_test rig lines cost)) h)

    -- the next step doesn't fit, so the run stops
    pub reached_short : (rig : Rig) (lines : List (List ℕ)) (cost fuel : ℕ)
        → Gets (in_test rig lines cost) → cost + fuel ≡ budget → rig.outcome ≡ None → fuel < (rig_step setup rig).cost
        → IsRun setup seed all budget (in_test rig lines cost)
    reached_short rig lines cost fuel r e o h = record {
      count = r.count;
      reached = sym r.is;
      stopped = ap (λ (x : Option Outcome). nat_le (cost + cost_in setup x (in_test rig lines cost)) budget) o ∙ le_false (cost + (rig_step setup rig).cost) budget (omega arith);
    }

  -- ---- between two tests

  module _ (cases : List Case) (verdicts : List Verdict) where
    abbrev pub in_wait : Rig → List (List ℕ) → ℕ → Run
    in_wait rig lines cost = run_at (Waits cases) rig lines verdicts cost

    -- one step of the wait
    pub reached_wait : (rig : Rig) (lines : List (List ℕ)) (cost fuel : ℕ)
        → Gets (in_wait rig lines cost) → cost + fuel ≡ budget → (rig_step setup rig).cost ≤ fuel
        → Gets (run_at (place_by (rig_step setup rig).rig.planned cases) (rig_step setup rig).rig (lines ++ (rig_step setup rig).lines) verdicts (cost + (rig_step setup rig).cost))
    reached_wait rig lines cost fuel r e h =
        reached_step (in_wait rig lines cost) (placed cases (within (rig_step setup rig) (in_wait rig lines cost))) r
        (le_true (cost + (rig_step setup rig).cost) budget (omega arith)) refl

    -- the next step of it doesn't fit
    pub wait_short : (rig : Rig) (lines : List (List ℕ)) (cost fuel : ℕ)
        → Gets (in_wait rig lines cost) → cost + fuel ≡ budget → fuel < (rig_step setup rig).cost → IsRun setup seed all budget (in_wait rig lines cost)
    wait_short rig lines cost fuel r e h =
        record { count = r.count; reached = sym r.is; stopped = le_false (cost + (rig_step setup rig).cost) budget (omega arith) }

    place_waits : (o : Option ℕ) → is_some o ≡ true → place_by o cases ≡ Waits cases
    place_waits None h = cc
    place_waits (Some time) h = refl

    -- where the start is planned the next test is waited for, and else it may begin
    abbrev pub at_wait : Rig → List (List ℕ) → ℕ → Run
    at_wait rig lines cost = run_at (place_by rig.planned cases) rig lines verdicts cost

    waits_as : (rig : Rig) (lines : List (List ℕ)) (cost : ℕ) → is_planned rig ≡ true → at_wait rig lines cost ≡ in_wait rig lines cost
    waits_as rig lines cost h = ap (λ (place : Place). run_at place rig lines verdicts cost) (place_waits rig.planned h)

    pub begins_as : (rig : Rig) (lines : List (List ℕ)) (cost : ℕ) → rig.planned ≡ None → at_wait rig lines cost ≡ run_at (Begins cases) rig lines verdicts cost
    begins_as rig lines cost h = ap (λ (o : Option ℕ). run_at (place_by o cases) rig lines verdicts cost) h

    -- steps of the wait
    pub reached_waits : (n : ℕ) (rig : Rig) (lines : List (List ℕ)) (cost fuel : ℕ) (more : List (List ℕ)) (fuel' : ℕ) (d : Rig)
        → Gets (at_wait rig lines cost) → cost + fuel ≡ budget → FitSteps is_planned setup n fuel rig more fuel' d
        → (cost' : ℕ) × (cost' + fuel' ≡ budget) × Gets (at_wait d (lines ++ more) cost')
    unfolding FitSteps
    reached_waits zero rig lines cost fuel more fuel' d r e w = (
      cost,
      rw w.1 e,
      subst (λ (x : Rig). Gets (at_wait x (lines ++ more) cost)) (sym w.2)
          (subst (λ (ls : List (List ℕ)). Gets (at_wait rig ls cost)) (sym (ap (λ (ls : List (List ℕ)). lines ++ ls) w.0 ∙ append-nil lines)) r),
    )
    reached_waits (suc n) rig lines cost fuel more fuel' d r e w =
        let s : Stepped = rig_step setup rig in
        let k : s.cost ≤ fuel = w.3 in
        let one : Gets (at_wait s.rig (lines ++ s.lines) (cost + s.cost))
        = reached_wait rig lines cost fuel (reached_as (at_wait rig lines cost) (in_wait rig lines cost) (waits_as rig lines cost w.1) r) e w.3 in
        let t : (cost' : ℕ) × (cost' + fuel' ≡ budget) × Gets (at_wait d ((lines ++ s.lines) ++ w.0) cost')
        = reached_waits n s.rig (lines ++ s.lines) (cost + s.cost) (fuel - s.cost) w.0 fuel' d one (omega arith) w.5 in (
          t.0,
          t.1,
          subst (λ (ls : List (List ℕ)). Gets (at_wait d ls t.0)) (append_assoc lines s.lines w.0 ∙ ap (λ (ls : List (List ℕ)). lines ++ ls) (sym w.4)) t.2,
        )

    -- the start is planned still, and the next step doesn't fit
    pub waits_short : (rig : Rig) (lines : List (List ℕ)) (cost fuel : ℕ) → is_planned rig ≡ true
        → Gets (at_wait rig lines cost) → cost + fuel ≡ budget → fuel < (rig_step setup rig).cost → IsRun setup seed all budget (in_wait rig lines cost)
    waits_short rig lines cost fuel p r e h = wait_short rig lines cost fuel (reached_as (at_wait rig lines cost) (in_wait rig lines cost) (waits_as rig lines cost p) r) e h

  -- ---- begins and ends

  pub pending_step : (rest : List Case) (c : Run) → Next rest c → Gets (begun setup rest c)
  pending_step rest c p = reached_step p.before (begun setup rest c) p.reached p.goes_on p.next

  -- a run begins
  pub pending_first : Next (unskipped all) (with_skips (skipped all) (opening setup seed all))
  unfolding steps
  pending_first = record { before = opening setup seed all; reached = record { count = 0; is = refl }; goes_on = le_true 0 budget (omega arith); next = refl }

  -- a planned start has fired
  pub pending_due : (case : Case) (cases : List Case) (rig : Rig) (lines : List (List ℕ)) (verdicts : List Verdict) (cost : ℕ)
      → case.skip ≡ false → cost ≤ budget → Gets (run_at (Begins (case ∷ cases)) rig lines verdicts cost)
      → Next (case ∷ cases) (run_at (Begins (case ∷ cases)) rig lines verdicts cost)
  pending_due case cases rig lines verdicts cost s e r =
      let c : Run = run_at (Begins (case ∷ cases)) rig lines verdicts cost in
      record { before = c; reached = r; goes_on = le_true (cost + 0) budget (omega arith); next = rw s (rw (append-nil, append-nil) refl) }

  -- The test ends, and no other is left.
  pub pending_last : (case : Case) (cases : List Case) (rig : Rig) (lines : List (List ℕ)) (verdicts : List Verdict) (cost : ℕ) (o : Outcome)
      → Gets (run_in case cases verdicts rig lines cost) → cost ≤ budget → rig.outcome ≡ Some o → unskipped cases ≡ []
      → Next [] (with_skips (skipped cases) (judged (reason_of setup.flat case o) case (run_in case cases verdicts rig lines cost)))
  pending_last case cases rig lines verdicts cost o r e h n =
      let c : Run = run_in case cases verdicts rig lines cost in
      record {
        before = c;
        reached = r;
        goes_on = ap (λ (x : Option Outcome). nat_le (cost + cost_in setup x c) budget) h ∙ le_true (cost + 0) budget (omega arith);
        next = ap (λ (x : Option Outcome). step_in setup case cases x c) h
            ∙ ap (λ (xs : List Case). planned xs (with_skips (skipped cases) (judged (reason_of setup.flat case o) case c))) n;
      }

  -- the run is over
  pub closes : (c : Run) → Next [] c → IsRun setup seed all budget (closed c)
  closes c p = let r : Gets (closed c) = pending_step [] c p in record { count = r.count; reached = sym r.is; stopped = refl }

  -- ---- lines

  -- lines so far are the first of a run
  written_more : (c : Run) → (more : List (List ℕ)) × (written setup budget c ≡ c.lines ++ more)
  written_more c = decided (goes setup budget c) (is_over c.place) refl refl
    where
      decided : (g o : Bool) → goes setup budget c ≡ g → is_over c.place ≡ o → (more : List (List ℕ)) × (written setup budget c ≡ c.lines ++ more)
      decided true o h k = ([], rw h (sym (append-nil c.lines)))
      decided false true h k = ([], rw (h, k) (sym (append-nil c.lines)))
      decided false false h k = (budget_line budget ∷ [], rw (h, k) refl)

  pub reached_start : (c : Run) (lines more : List (List ℕ)) → Gets c → c.lines ≡ lines ++ more → IsStart setup seed all budget lines
  reached_start c lines more r e =
      let w : (rest : List (List ℕ)) × (written setup budget c ≡ c.lines ++ rest) = written_more c in
      record { count = r.count; more = more ++ w.0; reached = ap (written setup budget) r.is ∙ w.1 ∙ ap (λ (ls : List (List ℕ)). ls ++ w.0) e ∙ append_assoc lines more w.0 }

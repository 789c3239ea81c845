-- Runs of files that end otherwise, step by step.
use Rattle.std.proofs.Common.{◌≡◌, ℕ, zero, suc, ◌+◌, Bool, true, false, List, [], ◌∷◌, ◌++◌, Option, None, Some, refl, ap, sym, subst, ◌∙◌, inl, if◌then◌else◌}
use Rattle.test_meaning.specs.Body.BodyTrees.{Block, Function, Case}
use Rattle.rig_model.specs.Task.Frame.{Task, function_at}
use Rattle.rig_model.specs.declared.run.outcome.Outcome.{Outcome}
use Rattle.rig_model.specs.Run.Rig.{Rig, Setup}
use Rattle.rig_model.specs.Run.Step.{Stepped, rig_step}
use Rattle.rig_model.specs.Run.Verdict.{reason_of}
use Rattle.rig_model.specs.Run.Run.{IsRun, Place, Begins, Runs, Waits, Over, is_over, Run, skipped, unskipped, with_skips, begun, planned, judged, within, place_by, placed, step, step_at, step_in, cost_at, cost_in, step_cost, goes, steps, opening, written}
use Rattle.rig_model.specs.Run.Line.{budget_line}
use Rattle.rig_model.proofs.RunLemmas.Whole.{run_unique}
use Rattle.rig_model.proofs.RunLemmas.Exists.{run_stops}
use Rattle.run_laws.specs.Remainder.Rests.{FunctionAlike, FunctionsAlike, TasksAlike}
use Rattle.run_laws.specs.Remainder.Alike.{SetupAlike, RunAlike, InBegins, AtBegins, BeginsRest}
use Rattle.run_laws.specs.Remainder.Remainder.{StepRemainder, GiveTheSame, RunRemainder, MarkedRemainder}
use Rattle.run_laws.proofs.RemainderLemmas.Rigs.{with_tasks, SteppedAlike, rig_step_alike, begin_alike}

module _ (one other : Block) where
  -- functions of the same number
  known_at : (fs gs : List Function) (n : ℕ) → FunctionsAlike one other fs gs → FunctionAlike one other (function_at fs n) (function_at gs n)
  known_at [] [] n h = inl refl
  known_at [] (g ∷ gs) n h = elim h [ ]
  known_at (f ∷ fs) [] n h = elim h [ ]
  known_at (f ∷ fs) (g ∷ gs) zero h = h.0
  known_at (f ∷ fs) (g ∷ gs) (suc n) h = known_at fs gs n h.1

  -- the same run with these live tasks
  abbrev with_live : List Task → Run → Run
  with_live ts c = record c { rig = with_tasks ts c.rig }

  module _ (setup : Setup) (functions : List Function) (known : (n : ℕ) → FunctionAlike one other (function_at setup.functions n) (function_at functions n)) where
    abbrev its : Setup
    its = record setup { functions = functions }

    begun_alike : (cases : List Case) (c : Run) (ts : List Task) → TasksAlike one other c.rig.tasks ts → RunAlike one other (begun setup cases c) (begun its cases (with_live ts c))
    begun_alike [] c ts h = record { same = refl; rig = record { same = refl; tasks = h } }
    begun_alike (case ∷ cases) c ts h = record { same = refl; rig = begin_alike one other setup functions known case c.rig ts h }

    planned_alike : (cases : List Case) (c : Run) (ts : List Task) → TasksAlike one other c.rig.tasks ts → RunAlike one other (planned cases c) (planned cases (with_live ts c))
    planned_alike [] c ts h = record { same = refl; rig = record { same = refl; tasks = h } }
    planned_alike (case ∷ cases) c ts h = record { same = refl; rig = record { same = refl; tasks = h } }

    within_alike : (s t : Stepped) (c : Run) (ts : List Task) → SteppedAlike one other s t → RunAlike one other (within s c) (within t (with_live ts c))
    within_alike s t c ts h = record {
      same = ap (λ (ls : List (List ℕ)). record c { rig = t.rig; lines = c.lines ++ ls; cost = c.cost + t.cost }) h.lines
          ∙ ap (λ (k : ℕ). record c { rig = t.rig; lines = c.lines ++ s.lines; cost = c.cost + k }) h.cost;
      rig = h.rig;
    }

    placed_alike : (cases : List Case) (c d : Run) → RunAlike one other c d → RunAlike one other (placed cases c) (placed cases d)
    placed_alike cases c d h = record {
      same = ap (placed cases) h.same ∙ ap (λ (r : Rig). record c { rig = d.rig; place = place_by r.planned cases }) h.rig.same;
      rig = h.rig;
    }

    in_alike : (case : Case) (cases : List Case) (o : Option Outcome) (c : Run) (ts : List Task) → TasksAlike one other c.rig.tasks ts → (InBegins one o c.rig → ⊥)
        → RunAlike one other (step_in setup case cases o c) (step_in its case cases o (with_live ts c))
    in_alike case cases (Some o) c ts h b = planned_alike (unskipped cases) (with_skips (skipped cases) (judged (reason_of setup.flat case o) case c)) [] tt
    in_alike case cases None c ts h b =
        within_alike (rig_step setup c.rig) (rig_step its (with_tasks ts c.rig)) c ts
        (rig_step_alike one other setup functions known c.rig (with_tasks ts c.rig) (record { same = refl; tasks = h }) b)

    at_alike : (p : Place) (c : Run) (ts : List Task) → TasksAlike one other c.rig.tasks ts → (AtBegins one p c.rig → ⊥)
        → RunAlike one other (step_at setup p c) (step_at its p (with_live ts c))
    at_alike (Begins cases) c ts h b = begun_alike (unskipped cases) (with_skips (skipped cases) c) ts h
    at_alike (Runs case cases) c ts h b = in_alike case cases c.rig.outcome c ts h b
    at_alike (Waits cases) c ts h b =
        let s : Stepped = rig_step setup c.rig in
        let t : Stepped = rig_step its (with_tasks ts c.rig) in
        placed_alike cases (within s c) (within t (with_live ts c))
        (within_alike s t c ts (rig_step_alike one other setup functions known c.rig (with_tasks ts c.rig) (record { same = refl; tasks = h }) b))
    at_alike Over c ts h b = record { same = refl; rig = record { same = refl; tasks = h } }

    in_cost_alike : (o : Option Outcome) (c : Run) (ts : List Task) → TasksAlike one other c.rig.tasks ts → (InBegins one o c.rig → ⊥)
        → cost_in its o (with_live ts c) ≡ cost_in setup o c
    in_cost_alike (Some o) c ts h b = refl
    in_cost_alike None c ts h b = (rig_step_alike one other setup functions known c.rig (with_tasks ts c.rig) (record { same = refl; tasks = h }) b).cost

    cost_alike : (p : Place) (c : Run) (ts : List Task) → TasksAlike one other c.rig.tasks ts → (AtBegins one p c.rig → ⊥)
        → cost_at its p (with_live ts c) ≡ cost_at setup p c
    cost_alike (Begins cases) c ts h b = refl
    cost_alike (Runs case cases) c ts h b = in_cost_alike c.rig.outcome c ts h b
    cost_alike (Waits cases) c ts h b = (rig_step_alike one other setup functions known c.rig (with_tasks ts c.rig) (record { same = refl; tasks = h }) b).cost
    cost_alike Over c ts h b = refl

  -- ---- one step

  run_same : (c d : Run) → RunAlike one other c d → d ≡ with_live d.rig.tasks c
  run_same c d h = h.same ∙ ap (λ (r : Rig). record c { rig = r }) h.rig.same

  step_by : (setup : Setup) (functions : List Function) (c : Run) (ts : List Task) → FunctionsAlike one other setup.functions functions → TasksAlike one other c.rig.tasks ts → (BeginsRest one c → ⊥)
      → RunAlike one other (step setup c) (step (record setup { functions = functions }) (with_live ts c))
      × (step_cost (record setup { functions = functions }) (with_live ts c) ≡ step_cost setup c)
  step_by setup functions c ts f h b =
      let known : (n : ℕ) → FunctionAlike one other (function_at setup.functions n) (function_at functions n) = λ n. known_at setup.functions functions n f in
      (at_alike setup functions known c.place c ts h b, cost_alike setup functions known c.place c ts h b)

pub step_remainder : StepRemainder
step_remainder one other setup setup' c d f h b =
    subst (λ (s : Setup). RunAlike one other (step setup c) (step s d) × (step_cost s d ≡ step_cost setup c)) (sym f.same)
    (subst (λ (x : Run). RunAlike one other (step setup c) (step (record setup { functions = setup'.functions }) x)
    × (step_cost (record setup { functions = setup'.functions }) x ≡ step_cost setup c)) (sym (run_same one other c d h))
    (step_by one other setup setup'.functions c d.rig.tasks f.functions h.rig.tasks b))

-- ---- many steps

module _ (one other : Block) (setup setup' : Setup) (budget : ℕ) (files : SetupAlike one other setup setup') where
  goes_alike : (c d : Run) → RunAlike one other c d → (BeginsRest one c → ⊥) → goes setup' budget d ≡ goes setup budget c
  goes_alike c d h b =
      let place : d.place ≡ c.place = ap (λ (x : Run). x.place) h.same in
      let cost : d.cost ≡ c.cost = ap (λ (x : Run). x.cost) h.same in
      let next : step_cost setup' d ≡ step_cost setup c = (step_remainder one other setup setup' c d files h b).1 in
      cc (place, cost, next)

  steps_alike : (n : ℕ) (c d : Run) → RunAlike one other c d → ((k : ℕ) → BeginsRest one (steps setup budget k c) → ⊥) → RunAlike one other (steps setup budget n c) (steps setup' budget n d)
  unfolding steps
  steps_alike zero c d h b = h
  steps_alike (suc n) c d h b = decided (goes setup budget c) refl (λ l m. steps_alike n (step setup c) (step setup' d) l m)
    where
      here : BeginsRest one c → ⊥
      here x = b 0 x

      decided : (g : Bool) → goes setup budget c ≡ g
          → (RunAlike one other (step setup c) (step setup' d) → ((k : ℕ) → BeginsRest one (steps setup budget k (step setup c)) → ⊥)
          → RunAlike one other (steps setup budget n (step setup c)) (steps setup' budget n (step setup' d)))
          → RunAlike one other (steps setup budget (suc n) c) (steps setup' budget (suc n) d)
      decided true g more =
          let its : goes setup' budget d ≡ true = goes_alike c d h here ∙ g in
          rw (g, its) (more (step_remainder one other setup setup' c d files h here).0 (λ k x. b (suc k) (rw g x)))
      decided false g more =
          let its : goes setup' budget d ≡ false = goes_alike c d h here ∙ g in
          rw (g, its) h

  -- what stops has written the same
  written_alike : (c d : Run) → RunAlike one other c d → (BeginsRest one c → ⊥) → written setup' budget d ≡ written setup budget c
  written_alike c d h b =
      let by : Bool → Bool → List (List ℕ) → List (List ℕ) = λ g over ls. if g then ls else (if over then ls else ls ++ budget_line budget ∷ []) in
      ap (λ (g : Bool). by g (is_over d.place) d.lines) (goes_alike c d h b)
      ∙ ap (λ (x : Run). by (goes setup budget c) (is_over x.place) x.lines) h.same

  give_alike : (c d : Run) → RunAlike one other c d → (BeginsRest one c → ⊥) → GiveTheSame setup setup' budget c d
  give_alike c d h b = record {
    written_is = written_alike c d h b;
    verdicts = ap (λ (x : Run). x.verdicts) h.same;
    cost = ap (λ (x : Run). x.cost) h.same;
    counts = ap (λ (r : Rig). r.counts) h.rig.same;
  }

pub run_remainder : RunRemainder
run_remainder one other setup setup' seed cases budget run run' f r r' b =
    let c : Run = opening setup seed cases in
    let d : Run = opening setup' seed cases in
    let start : RunAlike one other c d =
    subst (λ (s : Setup). RunAlike one other c (opening s seed cases)) (sym f.same) (record { same = refl; rig = record { same = refl; tasks = tt } }) in
    let last : Run = steps setup budget r.count c in
    let last' : Run = steps setup' budget r.count d in
    let alike : RunAlike one other last last' = steps_alike one other setup setup' budget f r.count c d start b in
    let stops : goes setup' budget last' ≡ false = goes_alike one other setup setup' budget f last last' alike (b r.count) ∙ ap (goes setup budget) (sym r.reached) ∙ r.stopped in
    let same : run' ≡ last' = run_unique setup' seed cases budget run' last' r' (record { count = r.count; reached = refl; stopped = stops }) in
    subst (λ (x : Run). GiveTheSame setup setup' budget x run') (sym r.reached)
    (subst (λ (y : Run). GiveTheSame setup setup' budget last y) (sym same) (give_alike one other setup setup' budget f last last' alike (b r.count)))

pub marked_remainder : MarkedRemainder
marked_remainder mark one other marked setup setup' seed cases budget run run' f g b r r' =
    let m : (x : Run) × IsRun marked seed cases budget x = run_stops marked seed cases budget in
    let x : GiveTheSame marked setup budget m.0 run = run_remainder mark one marked setup seed cases budget m.0 run f m.1 r b in
    let y : GiveTheSame marked setup' budget m.0 run' = run_remainder mark other marked setup' seed cases budget m.0 run' g m.1 r' b in
    record {
      written_is = y.written_is ∙ sym x.written_is;
      verdicts = y.verdicts ∙ sym x.verdicts;
      cost = y.cost ∙ sym x.cost;
      counts = y.counts ∙ sym x.counts;
    }

-- What each step of a run keeps holds of all configurations that a run reaches.
use Rattle.std.proofs.Common.{◌≡◌, ℕ, zero, suc, Bool, true, false, List, [], ◌∷◌, Option, None, Some, refl, sym, subst}
use Rattle.test_meaning.specs.Body.BodyTrees.{Case}
use Rattle.rig_model.specs.declared.run.outcome.Outcome.{Outcome}
use Rattle.rig_model.specs.Run.Rig.{Rig, Setup}
use Rattle.rig_model.specs.Run.Step.{rig_step}
use Rattle.rig_model.specs.Run.Case.{test_begun, ended, start_planned}
use Rattle.rig_model.specs.Run.Verdict.{reason_of}
use Rattle.rig_model.specs.Run.Run.{Run, Place, Begins, Runs, Waits, Over, skipped, unskipped, with_skips, begun, planned, judged, place_by, step_in, step_at, step, goes, steps, opening}
use Rattle.run_laws.specs.Places.Reached.{IsReached}

-- P is kept by each step
module _ (setup : Setup) (P : Run → Type 0) (keeps : (c : Run) → P c → P (step setup c)) where
  steps_keep : (budget n : ℕ) (c : Run) → P c → P (steps setup budget n c)
  unfolding steps
  steps_keep budget zero c h = h
  steps_keep budget (suc n) c h = decided (goes setup budget c) refl (steps_keep budget n (step setup c) (keeps c h))
    where
      decided : (b : Bool) → goes setup budget c ≡ b → P (steps setup budget n (step setup c)) → P (steps setup budget (suc n) c)
      decided true g k = rw g k
      decided false g k = rw g h

  pub reached_each : (seed : ℕ) (cases : List Case) (run : Run) → P (opening setup seed cases) → IsReached setup seed cases run → P run
  reached_each seed cases run h r = subst P (sym r.is) (steps_keep r.budget r.count (opening setup seed cases) h)

-- P is kept while a test runs, and Q between tests
module _ (setup : Setup) (P Q : Rig → Type 0) (begins : (case : Case) (c : Rig) → Q c → P (test_begun setup case c))
    (moves : (c : Rig) → c.outcome ≡ None → P c → P (rig_step setup c).rig) (ends : (c : Rig) → P c → Q (ended c))
    (plans : (c : Rig) → Q c → Q (start_planned c)) (passes : (c : Rig) → Q c → Q (rig_step setup c).rig) where
  abbrev HoldsAt : Place → Rig → Type 0
  HoldsAt (Begins cases) c = Q c
  HoldsAt (Runs case cases) c = P c
  HoldsAt (Waits cases) c = Q c
  HoldsAt Over c = Q c

  abbrev Holds : Run → Type 0
  Holds c = HoldsAt c.place c.rig

  begun_holds : (cases : List Case) (c : Run) → Q c.rig → Holds (begun setup cases c)
  begun_holds [] c h = h
  begun_holds (case ∷ cases) c h = begins case c.rig h

  planned_holds : (cases : List Case) (c : Run) → Q c.rig → Holds (planned cases c)
  planned_holds [] c h = h
  planned_holds (case ∷ cases) c h = plans c.rig h

  in_holds : (case : Case) (cases : List Case) (o : Option Outcome) (c : Run) → c.place ≡ Runs case cases → c.rig.outcome ≡ o → P c.rig
      → Holds (step_in setup case cases o c)
  in_holds case cases (Some outcome) c e n h =
      planned_holds (unskipped cases) (with_skips (skipped cases) (judged (reason_of setup.flat case outcome) case c)) (ends c.rig h)
  in_holds case cases None c e n h = subst (λ (p : Place). HoldsAt p (rig_step setup c.rig).rig) (sym e) (moves c.rig n h)

  by_planned : (o : Option ℕ) (cases : List Case) (c : Rig) → Q c → HoldsAt (place_by o cases) c
  by_planned None cases c h = h
  by_planned (Some time) cases c h = h

  at_holds : (p : Place) (c : Run) → c.place ≡ p → HoldsAt p c.rig → Holds (step_at setup p c)
  at_holds (Begins cases) c e h = begun_holds (unskipped cases) (with_skips (skipped cases) c) h
  at_holds (Runs case cases) c e h = in_holds case cases c.rig.outcome c e refl h
  at_holds (Waits cases) c e h = by_planned (rig_step setup c.rig).rig.planned cases (rig_step setup c.rig).rig (passes c.rig h)
  at_holds Over c e h = subst (λ (p : Place). HoldsAt p c.rig) (sym e) h

  either_at : (R : Rig → Type 0) → ((c : Rig) → P c → R c) → ((c : Rig) → Q c → R c) → (p : Place) (c : Rig) → HoldsAt p c → R c
  either_at R within between (Begins cases) c h = between c h
  either_at R within between (Runs case cases) c h = within c h
  either_at R within between (Waits cases) c h = between c h
  either_at R within between Over c h = between c h

  -- what follows from both holds wherever a run comes
  pub reached_hold : (R : Rig → Type 0) → ((c : Rig) → P c → R c) → ((c : Rig) → Q c → R c) → (seed : ℕ) (cases : List Case) (run : Run)
      → Q (opening setup seed cases).rig → IsReached setup seed cases run → R run.rig
  reached_hold R within between seed cases run h r =
      either_at R within between run.place run.rig (reached_each setup Holds (λ c k. at_holds c.place c refl k) seed cases run h r)

-- P is kept by the begin and the end of a test, and by each step in it
module _ (setup : Setup) (P : Rig → Type 0) (begins : (case : Case) (c : Rig) → P c → P (test_begun setup case c))
    (moves : (c : Rig) → P c → P (rig_step setup c).rig) (ends : (c : Rig) → P c → P (ended c)) (plans : (c : Rig) → P c → P (start_planned c)) where
  pub always : (seed : ℕ) (cases : List Case) (run : Run) → P (opening setup seed cases).rig → IsReached setup seed cases run → P run.rig
  always seed cases run h r =
      reached_hold setup P P begins (λ c n. moves c) ends plans moves P (λ c k. k) (λ c k. k) seed cases run h r

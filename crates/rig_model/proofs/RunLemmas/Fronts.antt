-- What is written on the way is a front of what a run writes.
use Rattle.std.proofs.Common.{◌≡◌, ℕ, zero, suc, Bool, true, false, List, [], ◌∷◌, ◌++◌, Option, None, Some, refl, ap, sym, ◌∙◌, append_assoc, append-nil}
use Rattle.std.specs.Prelude.{map}
use Rattle.test_meaning.specs.Body.BodyTrees.{Case}
use Rattle.rig_model.specs.declared.run.outcome.Outcome.{Outcome}
use Rattle.rig_model.specs.Run.Rig.{Setup}
use Rattle.rig_model.specs.Run.Line.{test_line, skip_line, verdict_line, budget_line}
use Rattle.rig_model.specs.Run.Step.{rig_step}
use Rattle.rig_model.specs.Run.Verdict.{reason_of, report_of}
use Rattle.rig_model.specs.Run.Run.{Place, Begins, Runs, Waits, Over, is_over, Run, skipped, unskipped, with_skips, closed, begun, planned, judged, step, step_at, step_in, goes, steps, opening, written, IsRun, IsStart}
use Rattle.rig_model.proofs.RunLemmas.Whole.{steps_none}

-- the second has written the lines of the first, and then more
abbrev Adds : Run → Run → Type 0
Adds c d = (more : List (List ℕ)) × (d.lines ≡ c.lines ++ more)

no_line : (c : Run) → Adds c c
no_line c = ([], sym (append-nil c.lines))

adds_then : (b c d : Run) → Adds b c → Adds c d → Adds b d
adds_then b c d x y = (x.0 ++ y.0, y.1 ∙ ap (λ (ls : List (List ℕ)). ls ++ y.0) x.1 ∙ append_assoc b.lines x.0 y.0)

skips_add : (cases : List Case) (c : Run) → Adds c (with_skips cases c)
skips_add cases c = (map (λ (case : Case). skip_line c.rig.sim.time case.name) cases, refl)

closed_adds : (c : Run) → Adds c (closed c)
closed_adds c = (report_of c.verdicts c.rig.sim.time ∷ [], refl)

begun_adds : (setup : Setup) (cases : List Case) (c : Run) → Adds c (begun setup cases c)
begun_adds setup [] c = closed_adds c
begun_adds setup (case ∷ cases) c = (test_line c.rig.sim.time case.name ∷ [], refl)

planned_adds : (cases : List Case) (c : Run) → Adds c (planned cases c)
planned_adds [] c = closed_adds c
planned_adds (case ∷ cases) c = no_line c

judged_adds : (reason : Option (List ℕ)) (case : Case) (c : Run) → Adds c (judged reason case c)
judged_adds reason case c = (verdict_line c.rig.sim.time case.name reason ∷ [], refl)

in_adds : (setup : Setup) (case : Case) (cases : List Case) (o : Option Outcome) (c : Run) → Adds c (step_in setup case cases o c)
in_adds setup case cases (Some o) c =
    let d : Run = judged (reason_of setup.flat case o) case c in
    let e : Run = with_skips (skipped cases) d in
    adds_then c e (planned (unskipped cases) e) (adds_then c d e (judged_adds (reason_of setup.flat case o) case c) (skips_add (skipped cases) d)) (planned_adds (unskipped cases) e)
in_adds setup case cases None c = ((rig_step setup c.rig).lines, refl)

-- a step writes at the end
at_adds : (setup : Setup) (p : Place) (c : Run) → Adds c (step_at setup p c)
at_adds setup Over c = no_line c
at_adds setup (Begins cases) c =
    let d : Run = with_skips (skipped cases) c in
    adds_then c d (begun setup (unskipped cases) d) (skips_add (skipped cases) c) (begun_adds setup (unskipped cases) d)
at_adds setup (Runs case cases) c = in_adds setup case cases c.rig.outcome c
at_adds setup (Waits cases) c = ((rig_step setup c.rig).lines, refl)

module _ (setup : Setup) (budget : ℕ) where
  -- steps only add lines
  steps_add : (n : ℕ) (c : Run) → Adds c (steps setup budget n c)
  unfolding steps
  steps_add zero c = no_line c
  steps_add (suc n) c = decided (goes setup budget c) refl (steps_add n (step setup c))
    where
      decided : (b : Bool) → goes setup budget c ≡ b → Adds (step setup c) (steps setup budget n (step setup c)) → Adds c (steps setup budget (suc n) c)
      decided true h more = rw h (adds_then c (step setup c) (steps setup budget n (step setup c)) (at_adds setup c.place c) more)
      decided false h more = rw h (no_line c)

  -- what stops writes what it has, and the line that says why where it isn't over
  written_stopped : (c : Run) → goes setup budget c ≡ false → (more : List (List ℕ)) × (written setup budget c ≡ c.lines ++ more)
  written_stopped c h = decided (is_over c.place) refl
    where
      decided : (o : Bool) → is_over c.place ≡ o → (more : List (List ℕ)) × (written setup budget c ≡ c.lines ++ more)
      decided true k = ([], rw (h, k) (sym (append-nil c.lines)))
      decided false k = (budget_line budget ∷ [], rw (h, k) refl)

  -- what is written after so many steps is a front of what is written where the run stops
  fronts : (j k : ℕ) (c : Run) → goes setup budget (steps setup budget k c) ≡ false
      → (more : List (List ℕ)) × (written setup budget (steps setup budget k c) ≡ written setup budget (steps setup budget j c) ++ more)
  unfolding steps
  fronts zero k c p = decided (goes setup budget c) refl
    where
      decided : (g : Bool) → goes setup budget c ≡ g → (more : List (List ℕ)) × (written setup budget (steps setup budget k c) ≡ written setup budget c ++ more)
      decided true g =
          let last : (more : List (List ℕ)) × (written setup budget (steps setup budget k c) ≡ (steps setup budget k c).lines ++ more) =
          written_stopped (steps setup budget k c) p in
          let added : Adds c (steps setup budget k c) = steps_add k c in
          let here : written setup budget c ≡ c.lines = rw g refl in (
            added.0 ++ last.0,
            last.1 ∙ ap (λ (ls : List (List ℕ)). ls ++ last.0) added.1 ∙ append_assoc c.lines added.0 last.0 ∙ ap (λ (ls : List (List ℕ)). ls ++ (added.0 ++ last.0)) (sym here),
          )
      decided false g = ([], ap (written setup budget) (steps_none setup budget k c g) ∙ sym (append-nil (written setup budget c)))
  fronts (suc j) zero c p =
      ([], ap (written setup budget) (sym (steps_none setup budget (suc j) c p)) ∙ sym (append-nil (written setup budget (steps setup budget (suc j) c))))
  fronts (suc j) (suc k) c p = decided (goes setup budget c) refl (λ q. fronts j k (step setup c) q)
    where
      decided : (b : Bool) → goes setup budget c ≡ b
          → (goes setup budget (steps setup budget k (step setup c)) ≡ false
          → (more : List (List ℕ)) × (written setup budget (steps setup budget k (step setup c)) ≡ written setup budget (steps setup budget j (step setup c)) ++ more))
          → (more : List (List ℕ)) × (written setup budget (steps setup budget (suc k) c) ≡ written setup budget (steps setup budget (suc j) c) ++ more)
      decided true h more = rw h (more (rw h at p))
      decided false h more = ([], rw h (sym (append-nil (written setup budget c))))

-- the first lines that a run writes are a front of all its lines
pub start_is_front : (setup : Setup) (seed : ℕ) (cases : List Case) (budget : ℕ) (c : Run) (lines : List (List ℕ))
    → IsRun setup seed cases budget c → IsStart setup seed cases budget lines → (more : List (List ℕ)) × (written setup budget c ≡ lines ++ more)
start_is_front setup seed cases budget c lines r s =
    let f : (more : List (List ℕ)) × (written setup budget (steps setup budget r.count (opening setup seed cases))
    ≡ written setup budget (steps setup budget s.count (opening setup seed cases)) ++ more) =
    fronts setup budget s.count r.count (opening setup seed cases) (ap (goes setup budget) (sym r.reached) ∙ r.stopped) in
    (s.more ++ f.0, ap (written setup budget) r.reached ∙ f.1 ∙ ap (λ (ls : List (List ℕ)). ls ++ f.0) s.reached ∙ append_assoc lines s.more f.0)

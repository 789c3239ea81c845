-- A run that stopped has written a line at least: the closing one, or the one of its budget.
use Rattle.std.proofs.Common.{◌≡◌, ◌≢◌, ℕ, zero, suc, Bool, true, false, List, [], ◌∷◌, ◌++◌, Option, None, Some, refl, ap, sym, subst, ◌∙◌}
use Rattle.std.specs.Prelude.{if◌then◌else◌}
use Rattle.test_meaning.specs.Body.BodyTrees.{Case}
use Rattle.rig_model.specs.declared.run.outcome.Outcome.{Outcome}
use Rattle.rig_model.specs.Run.Line.{budget_line}
use Rattle.rig_model.specs.Run.Rig.{Setup}
use Rattle.rig_model.specs.Run.Step.{rig_step}
use Rattle.rig_model.specs.Run.Verdict.{reason_of, report_of}
use Rattle.rig_model.specs.Run.Run.{Place, Begins, Runs, Waits, Over, is_over, Run, unskipped, skipped, with_skips, judged, begun, planned, place_by, within, step, step_at, step_in, goes, steps, opening, IsRun, written}

-- a line behind others
more_lines : (lines : List (List ℕ)) (line : List ℕ) → lines ++ line ∷ [] ≢ []
more_lines [] line e = cc
more_lines (first ∷ lines) line e = cc

-- a run that is over has written a line
abbrev IsClosed : Run → Type 0
IsClosed c = is_over c.place ≡ true → c.lines ≢ []

begun_closed : (setup : Setup) (cases : List Case) (c : Run) → IsClosed (begun setup cases c)
begun_closed setup [] c over = more_lines c.lines (report_of c.verdicts c.rig.sim.time)
begun_closed setup (case ∷ cases) c over = absurd (false_true over)
  where
    false_true : false ≡ true → ⊥
    false_true e = cc

planned_closed : (cases : List Case) (c : Run) → IsClosed (planned cases c)
planned_closed [] c over = more_lines c.lines (report_of c.verdicts c.rig.sim.time)
planned_closed (case ∷ cases) c over = cc

placed_closed : (time : Option ℕ) (cases : List Case) (c : Run) → IsClosed (record c { place = place_by time cases })
placed_closed None cases c over = cc
placed_closed (Some time) cases c over = cc

-- a step of a test leaves it running, or ends it
in_closed : (setup : Setup) (case : Case) (cases : List Case) (outcome : Option Outcome) (c : Run) → c.place ≡ Runs case cases → IsClosed (step_in setup case cases outcome c)
in_closed setup case cases (Some outcome) c is =
    planned_closed (unskipped cases) (with_skips (skipped cases) (judged (reason_of setup.flat case outcome) case c))
in_closed setup case cases None c is = λ over. let no : false ≡ true = sym (ap is_over is) ∙ over in cc

step_closed : (setup : Setup) (place : Place) (c : Run) → c.place ≡ place → IsClosed c → IsClosed (step_at setup place c)
step_closed setup (Begins cases) c is closed = begun_closed setup (unskipped cases) (with_skips (skipped cases) c)
step_closed setup (Runs case cases) c is closed = in_closed setup case cases c.rig.outcome c is
step_closed setup (Waits cases) c is closed = placed_closed (rig_step setup c.rig).rig.planned cases (within (rig_step setup c.rig) c)
step_closed setup Over c is closed = closed

steps_closed : (setup : Setup) (budget count : ℕ) (c : Run) → IsClosed c → IsClosed (steps setup budget count c)
unfolding steps
steps_closed setup budget zero c closed = closed
steps_closed setup budget (suc count) c closed = decided (goes setup budget c) (steps_closed setup budget count (step setup c) (step_closed setup c.place c refl closed))
  where
    decided : (b : Bool) → IsClosed (steps setup budget count (step setup c)) → IsClosed (if b then steps setup budget count (step setup c) else c)
    decided true later = later
    decided false later = closed

pub writes_some : (setup : Setup) (seed : ℕ) (cases : List Case) (budget : ℕ) (run : Run) → IsRun setup seed cases budget run → written setup budget run ≢ []
writes_some setup seed cases budget run is = by_goes (goes setup budget run) is.stopped
  where
    closed : IsClosed run
    closed = subst IsClosed (sym is.reached) (steps_closed setup budget is.count (opening setup seed cases) (λ over. cc))

    by_over : (b : Bool) → is_over run.place ≡ b → (if b then run.lines else run.lines ++ budget_line budget ∷ []) ≢ []
    by_over true over = closed over
    by_over false over = more_lines run.lines (budget_line budget)

    by_goes : (b : Bool) → b ≡ false → (if b then run.lines else (if is_over run.place then run.lines else run.lines ++ budget_line budget ∷ [])) ≢ []
    by_goes true stops = λ is. cc
    by_goes false stops = by_over (is_over run.place) refl

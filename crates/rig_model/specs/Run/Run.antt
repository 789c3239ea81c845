-- A run (cocotb 1.8, `cocotb.test`): tests in order, step by step, up to a budget.
use Rattle.std.specs.Prelude.{◌≡◌, ℕ, zero, suc, ◌+◌, nat_le, Bool, true, false, not, ◌&&◌, List, [], ◌∷◌, ◌++◌, map, Option, None, Some, if◌then◌else◌}
use Rattle.gpi.specs.State.{State}
use Rattle.gpi.specs.Content as content
use Rattle.gpi.specs.Content.{no_counts}
use Rattle.run_view.specs.RandomStream.Generator.{seeded}
use Rattle.test_meaning.specs.Body.BodyTrees.{Case}
use Rattle.rig_model.specs.Run.Line.{test_line, skip_line, verdict_line, budget_line}
use Rattle.rig_model.specs.Run.Rig.{Rig, Setup}
use Rattle.rig_model.specs.Run.Step.{Stepped, rig_step}
use Rattle.rig_model.specs.Run.Case.{emptied, ended, start_planned, test_begun}
use Rattle.rig_model.specs.Run.Verdict.{reason_of, verdict_of, report_of}
use Rattle.rig_model.specs.declared.run.outcome.Outcome.{Outcome}
use Rattle.rig_model.specs.declared.run.outcome.Verdict.{Verdict}
use Rattle.rig_model.specs.declared.run.outcome.Verdict.TheVariants.{Skip}

-- where a run stands, with the tests that are left: the next one is to begin, one runs, the next one's start is planned, or all is over
pub data Place : Type 0 where
  Begins : List Case → Place
  Runs : Case → List Case → Place
  Waits : List Case → Place
  Over : Place

-- the whole configuration
pub record Run : Type 0 where
  pub rig : Rig
  pub place : Place
  -- the lines that were written
  pub lines : List (List ℕ)
  -- of each test that ended or was skipped
  pub verdicts : List Verdict
  -- what the steps so far cost
  pub cost : ℕ

-- ---- skipped tests

-- the tests before the first that isn't skipped, and those from it on
abbrev pub skipped : List Case → List Case
skipped [] = []
skipped (case ∷ cases) = if case.skip then case ∷ skipped cases else []

abbrev pub unskipped : List Case → List Case
unskipped [] = []
unskipped (case ∷ cases) = if case.skip then unskipped cases else case ∷ cases

-- these tests are skipped
abbrev pub with_skips : List Case → Run → Run
with_skips cases c = record c {
  lines = c.lines ++ map (λ (case : Case). skip_line c.rig.sim.time case.name) cases;
  verdicts = c.verdicts ++ map (λ (case : Case). Skip) cases;
}

-- ---- begins and ends of tests

-- no test is left
abbrev pub closed : Run → Run
closed c = record c { place = Over; lines = c.lines ++ report_of c.verdicts c.rig.sim.time ∷ [] }

-- the first of these tests begins
abbrev pub begun : Setup → List Case → Run → Run
begun setup [] c = closed c
begun setup (case ∷ cases) c =
    record c { rig = test_begun setup case c.rig; place = Runs case cases; lines = c.lines ++ test_line c.rig.sim.time case.name ∷ [] }

-- the first of these tests is to begin in the next time step
abbrev pub planned : List Case → Run → Run
planned [] c = closed c
planned (case ∷ cases) c = record c { rig = start_planned c.rig; place = Waits (case ∷ cases) }

-- all of the test is dropped, and its verdict is written
abbrev pub judged : Option (List ℕ) → Case → Run → Run
judged reason case c = record c {
  rig = ended c.rig;
  lines = c.lines ++ verdict_line c.rig.sim.time case.name reason ∷ [];
  verdicts = c.verdicts ++ verdict_of reason ∷ [];
}

-- a test ends, and those that are skipped after it are told
abbrev pub test_ended : Setup → Case → List Case → Outcome → Run → Run
test_ended setup case cases outcome c =
    planned (unskipped cases) (with_skips (skipped cases) (judged (reason_of setup.flat case outcome) case c))

-- ---- steps

abbrev pub is_over : Place → Bool
is_over (Begins cases) = false
is_over (Runs case cases) = false
is_over (Waits cases) = false
is_over Over = true

-- a step within a test, or between two
abbrev pub within : Stepped → Run → Run
within s c = record c { rig = s.rig; lines = c.lines ++ s.lines; cost = c.cost + s.cost }

-- a step of a test that runs: it ends where it has an outcome
abbrev pub step_in : Setup → Case → List Case → Option Outcome → Run → Run
step_in setup case cases (Some outcome) c = test_ended setup case cases outcome c
step_in setup case cases None c = within (rig_step setup c.rig) c

-- a test is to begin once its planned start has fired
abbrev pub place_by : Option ℕ → List Case → Place
place_by None cases = Begins cases
place_by (Some time) cases = Waits cases

-- what a step between two tests has led to
abbrev pub placed : List Case → Run → Run
placed cases c = record c { place = place_by c.rig.planned cases }

abbrev pub step_at : Setup → Place → Run → Run
step_at setup (Begins cases) c = begun setup (unskipped cases) (with_skips (skipped cases) c)
step_at setup (Runs case cases) c = step_in setup case cases c.rig.outcome c
step_at setup (Waits cases) c = placed cases (within (rig_step setup c.rig) c)
step_at setup Over c = c

-- One step: a test ends, or begins, or goes on, or the next one is waited for.
abbrev pub step : Setup → Run → Run
step setup c = step_at setup c.place c

abbrev pub cost_in : Setup → Option Outcome → Run → ℕ
cost_in setup (Some outcome) c = 0
cost_in setup None c = (rig_step setup c.rig).cost

abbrev pub cost_at : Setup → Place → Run → ℕ
cost_at setup (Begins cases) c = 0
cost_at setup (Runs case cases) c = cost_in setup c.rig.outcome c
cost_at setup (Waits cases) c = (rig_step setup c.rig).cost
cost_at setup Over c = 0

-- the cost of that step, 0 or 1
abbrev pub step_cost : Setup → Run → ℕ
step_cost setup c = cost_at setup c.place c

-- ---- runs

-- the run isn't over, and its cost so far with that of the next step is within the budget
abbrev pub goes : Setup → ℕ → Run → Bool
goes setup budget c = not (is_over c.place) && nat_le (c.cost + step_cost setup c) budget

-- so many steps, or fewer where the run stops
unfoldable pub steps : Setup → ℕ → ℕ → Run → Run
steps setup budget zero c = c
steps setup budget (suc n) c = if goes setup budget c then steps setup budget n (step setup c) else c

-- the opening state of the design
abbrev pub opening_sim : Setup → State
opening_sim setup = (content.opening setup.flat).state

-- the start of a run of these tests, with the random numbers of a seed
abbrev pub opening : Setup → ℕ → List Case → Run
opening setup seed cases =
    record { rig = emptied (opening_sim setup) (seeded seed) no_counts; place = Begins cases; lines = []; verdicts = []; cost = 0 }

-- Where a run of this budget stops.
pub record IsRun (setup : Setup) (seed : ℕ) (cases : List Case) (budget : ℕ) (c : Run) : Type 0 where
  pub count : ℕ
  pub reached : c ≡ steps setup budget count (opening setup seed cases)
  pub stopped : goes setup budget c ≡ false

-- what has been written by then: its lines, and where a run stops that isn't over the line that says so
abbrev pub written : Setup → ℕ → Run → List (List ℕ)
written setup budget c =
    if goes setup budget c then c.lines else (if is_over c.place then c.lines else c.lines ++ budget_line budget ∷ [])

-- These are the first lines that a run of this budget writes.
pub record IsStart (setup : Setup) (seed : ℕ) (cases : List Case) (budget : ℕ) (lines : List (List ℕ)) : Type 0 where
  pub count : ℕ
  pub more : List (List ℕ)
  pub reached : written setup budget (steps setup budget count (opening setup seed cases)) ≡ lines ++ more

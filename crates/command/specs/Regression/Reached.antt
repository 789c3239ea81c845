-- A means of proof: where a run over tests has come. It says nothing that a reader must trust.
use Rattle.std.specs.Prelude.{◌≡◌, ℕ, true, List}
use Rattle.test_meaning.specs.Body.BodyTrees.{Case}
use Rattle.rig_model.specs.Run.Rig.{Rig, Setup}
use Rattle.rig_model.specs.Run.Run.{Run, Place, Runs, begun, goes, opening, step, steps}
use Rattle.rig_model.specs.declared.run.outcome.Verdict.{Verdict}

-- a run that stands there
abbrev pub run_at : Place → Rig → List (List ℕ) → List Verdict → ℕ → Run
run_at place rig lines verdicts cost = record { rig = rig; place = place; lines = lines; verdicts = verdicts; cost = cost }

-- a run in which this test runs
abbrev pub run_in : Case → List Case → List Verdict → Rig → List (List ℕ) → ℕ → Run
run_in case cases verdicts rig lines cost = run_at (Runs case cases) rig lines verdicts cost

-- So many steps lead from the opening to this.
pub record Reached (setup : Setup) (seed : ℕ) (all : List Case) (budget : ℕ) (c : Run) : Type 0 where
  pub count : ℕ
  pub is : steps setup budget count (opening setup seed all) ≡ c

-- The next step begins the first of these tests, or closes the run where there is none; it leads on from c.
pub record Pending (setup : Setup) (seed : ℕ) (all : List Case) (budget : ℕ) (rest : List Case) (c : Run) : Type 0 where
  pub before : Run
  pub reached : Reached setup seed all budget before
  pub goes_on : goes setup budget before ≡ true
  pub next : step setup before ≡ begun setup rest c

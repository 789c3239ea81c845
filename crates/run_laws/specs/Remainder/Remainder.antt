-- A means of proof: what the laws of the remainder say, which stand beside the command's contract: what a task has still to do that never
-- comes is without effect.
use Rattle.std.specs.Prelude.{◌≡◌, ℕ, List}
use Rattle.test_meaning.specs.Body.BodyTrees.{Block, Case}
use Rattle.rig_model.specs.Run.Rig.{Setup}
use Rattle.rig_model.specs.Run.Run.{Run, IsRun, step, step_cost, steps, opening, written}
use Rattle.run_laws.specs.Remainder.Alike.{SetupAlike, RunAlike, BeginsRest}

-- A step that doesn't begin the rest leads to the same where functions end otherwise, and costs as much.
abbrev pub StepRemainder : Type 0
StepRemainder = (one other : Block) (setup setup' : Setup) (c d : Run) → SetupAlike one other setup setup' → RunAlike one other c d → (BeginsRest one c → ⊥)
    → RunAlike one other (step setup c) (step setup' d) × (step_cost setup' d ≡ step_cost setup c)

-- no step of the run begins the rest, nor would the step that comes next where it stops
abbrev pub NeverBegins : Block → Setup → ℕ → List Case → ℕ → Type 0
NeverBegins rest setup seed cases budget = (count : ℕ) → BeginsRest rest (steps setup budget count (opening setup seed cases)) → ⊥

-- what is written, the verdicts, the cost and the counts of keys are the same
pub record GiveTheSame (setup setup' : Setup) (budget : ℕ) (run run' : Run) : Type 0 where
  pub written_is : written setup' budget run' ≡ written setup budget run
  pub verdicts : run'.verdicts ≡ run.verdicts
  pub cost : run'.cost ≡ run.cost
  pub counts : run'.rig.counts ≡ run.rig.counts

-- Where the run of a file never begins the rest of a function, the run of a file in which the function ends otherwise gives the same, with the same tests, seed
-- and budget.
abbrev pub RunRemainder : Type 0
RunRemainder = (one other : Block) (setup setup' : Setup) (seed : ℕ) (cases : List Case) (budget : ℕ) (run run' : Run) → SetupAlike one other setup setup'
    → IsRun setup seed cases budget run → IsRun setup' seed cases budget run' → NeverBegins one setup seed cases budget
    → GiveTheSame setup setup' budget run run'

-- The same of two files over a third one, in which the function ends with a mark: some statements that may stand nowhere else. Where its run never begins the
-- mark, the runs of files with any two rests in the place of the mark give the same.
abbrev pub MarkedRemainder : Type 0
MarkedRemainder = (mark one other : Block) (marked setup setup' : Setup) (seed : ℕ) (cases : List Case) (budget : ℕ) (run run' : Run)
    → SetupAlike mark one marked setup → SetupAlike mark other marked setup' → NeverBegins mark marked seed cases budget
    → IsRun setup seed cases budget run → IsRun setup' seed cases budget run' → GiveTheSame setup setup' budget run run'

-- A means of proof: what the laws of separate tests say, which stand beside the command's contract.
use Rattle.std.specs.Prelude.{◌≡◌, ℕ, true, false, List, Some}
use Rattle.test_meaning.specs.Body.BodyTrees.{Case}
use Rattle.rig_model.specs.Run.Rig.{Setup}
use Rattle.rig_model.specs.Run.Run.{Run, IsRun, is_over, steps, opening}
use Rattle.run_laws.specs.SeparateTests.Between.{AgreeBetween, IsBetween, left_at}
use Rattle.run_laws.specs.SeparateTests.Later.{AddTheSame, meets_budget}

-- What a test does depends on no earlier one but by the state of the simulator, the random numbers and the time of its start: two runs of one setup that agree
-- between tests add, step by step, the same lines and verdicts of all later tests at the same cost, as long as neither meets its budget.
abbrev pub SeparateTests : Type 0
SeparateTests = (setup : Setup) (budget budget' : ℕ) (c d : Run) → AgreeBetween c d
    → (count : ℕ) → meets_budget setup budget (steps setup budget count c) ≡ false → meets_budget setup budget' (steps setup budget' count d) ≡ false
    → AddTheSame c d (steps setup budget count c) (steps setup budget' count d)

-- A run of this seed, these tests and this budget came by the first configuration, and is over at the second.
pub record IsOver (setup : Setup) (seed : ℕ) (cases : List Case) (budget : ℕ) (c last : Run) : Type 0 where
  pub count : ℕ
  pub came_by : c ≡ steps setup budget count (opening setup seed cases)
  pub run : IsRun setup seed cases budget last
  pub over : is_over last.place ≡ true

-- Two runs of one setup, each with a seed, tests and a budget of its own, that come by configurations that agree between tests, and are over within their
-- budgets, have added the same lines and verdicts at the same cost from there to their ends.
abbrev pub SeparateRuns : Type 0
SeparateRuns = (setup : Setup) (seed seed' : ℕ) (cases cases' : List Case) (budget budget' : ℕ) (c d last last' : Run)
    → IsOver setup seed cases budget c last → IsOver setup seed' cases' budget' d last' → AgreeBetween c d → AddTheSame c d last last'

-- Where no test runs and not all is over, nothing of an earlier test is there.
abbrev pub NothingBetween : Type 0
NothingBetween = (setup : Setup) (seed : ℕ) (cases : List Case) (budget count : ℕ)
    → let c = steps setup budget count (opening setup seed cases) in (left : List Case) → left_at c.place ≡ Some left → IsBetween left c

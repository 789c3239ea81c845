-- A means of proof: where a run stands between two tests, and when two such runs agree, for the law of separate tests.
use Rattle.std.specs.Prelude.{◌≡◌, ℕ, List, Option, Some, None}
use Rattle.gpi.specs.State.{State}
use Rattle.gpi.specs.declared.types.Counts.{Counts}
use Rattle.run_view.specs.RandomStream.Generator.{Generator}
use Rattle.test_meaning.specs.Body.BodyTrees.{Case}
use Rattle.rig_model.specs.Run.Case.{emptied}
use Rattle.rig_model.specs.Run.Rig.{Rig}
use Rattle.rig_model.specs.Run.Run.{Place, Begins, Runs, Waits, Over, Run, place_by}

-- nothing of a test is there; the start of the next one is planned, or isn't
abbrev pub idle : State → Option ℕ → Generator → Counts → Rig
idle sim planned random counts = record (emptied sim random counts) { planned = planned }

-- the configuration is such a one
abbrev pub IsIdle : Rig → Type 0
IsIdle c = c ≡ idle c.sim c.planned c.random c.counts

-- The run stands between two tests or before the first, and these are left: the next of them waits for its planned start, or is to begin.
pub record IsBetween (left : List Case) (c : Run) : Type 0 where
  pub place : c.place ≡ place_by c.rig.planned left
  pub idle : IsIdle c.rig

-- Two runs between tests that agree in the tests left, the state of the simulator, the planned start and the random numbers. Their lines, verdicts and cost so
-- far may differ, and so may the counts of registered, removed and fired keys.
pub record AgreeBetween (c d : Run) : Type 0 where
  pub left : List Case
  pub one : IsBetween left c
  pub other : IsBetween left d
  pub sim : d.rig.sim ≡ c.rig.sim
  pub planned : d.rig.planned ≡ c.rig.planned
  pub random : d.rig.random ≡ c.rig.random

-- the tests that are left at a place between two tests
abbrev pub left_at : Place → Option (List Case)
left_at (Begins left) = Some left
left_at (Runs case left) = None
left_at (Waits left) = Some left
left_at Over = None

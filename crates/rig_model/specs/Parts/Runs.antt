-- A means of proof: steps of a run from some place of it on, for the proofs of the runner.
use Rattle.std.specs.Prelude.{◌≡◌, ℕ, ◌+◌, Bool, false, List, ◌++◌, is_some}
use Rattle.rig_model.specs.Run.Rig.{Rig, Setup}
use Rattle.rig_model.specs.Run.Run.{Place, Run, goes, is_over, steps}

-- the start of the next test is planned
abbrev pub is_planned : Rig → Bool
is_planned c = is_some c.planned

-- So many steps of a run of this budget lead to this place and this configuration, write these lines, and leave so much of the budget.
pub record RunsOn (setup : Setup) (budget count : ℕ) (run : Run) (place : Place) (lines : List (List ℕ)) (left : ℕ) (rig : Rig) : Type 0 where
  pub cost : ℕ
  pub leaves : cost + left ≡ budget
  pub reached : steps setup budget count run ≡ record run { rig = rig; place = place; lines = run.lines ++ lines; cost = cost }

-- A run of this budget goes on to where it stops before it is over: by then it has written these lines, and its configuration is this one but for who has the
-- turn, who is ready, and the outcome.
pub record StopsAt (setup : Setup) (budget : ℕ) (run : Run) (lines : List (List ℕ)) (kept : Rig) : Type 0 where
  pub count : ℕ
  pub last : Run
  pub reached : steps setup budget count run ≡ last
  pub stopped : goes setup budget last ≡ false
  pub is_open : is_over last.place ≡ false
  pub written : last.lines ≡ run.lines ++ lines
  pub rig_is : last.rig ≡ record kept { running = last.rig.running; ready = last.rig.ready; outcome = last.rig.outcome }

-- A means of proof: configurations between two tests, while the start of the next one is planned, for the proofs of the runner's turns.
use Rattle.std.specs.Prelude.{◌≡◌, ℕ, List, [], Option, Some}
use Rattle.gpi.specs.State.{State}
use Rattle.gpi.specs.declared.types.Counts.{Counts}
use Rattle.gpi.specs.declared.types.Key.{Key}
use Rattle.run_view.specs.RandomStream.Generator.{Generator}
use Rattle.rig_model.specs.Run.Rig.{Rig}
use Rattle.rig_model.specs.Run.Case.{emptied}

-- nothing of a test is there: nothing but a start that may be planned, while these keys have fired and are still to be served
abbrev pub between : State → Generator → Counts → Option ℕ → List Key → Rig
between sim random counts planned fired = record (emptied sim random counts) { planned = planned; fired = fired }

-- the configuration is such a one, with a start that is planned, and each fired key is served
pub record IsBetween (c : Rig) : Type 0 where
  pub sim : State
  pub random : Generator
  pub counts : Counts
  pub time : ℕ
  pub is : c ≡ between sim random counts (Some time) []

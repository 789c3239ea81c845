-- A means of proof: configurations that runs reach, for the laws of where their tasks stand and of what these wait for.
use Rattle.std.specs.Prelude.{◌≡◌, ℕ, List}
use Rattle.gpi.specs.Soundness.{IsSoundFlat}
use Rattle.test_meaning.specs.Body.BodyTrees.{Case}
use Rattle.rig_model.specs.Task.Known.{AreSoundFunctions}
use Rattle.rig_model.specs.Run.Rig.{Setup}
use Rattle.rig_model.specs.Run.Run.{Run, steps, opening}

-- After so many steps a run of these tests under this budget stands so.
pub record IsReached (setup : Setup) (seed : ℕ) (cases : List Case) (run : Run) : Type 0 where
  pub budget : ℕ
  pub count : ℕ
  pub is : run ≡ steps setup budget count (opening setup seed cases)

-- The design is sound, and so is each call in the functions of the file.
pub record IsSoundSetup (setup : Setup) : Type 0 where
  pub design : IsSoundFlat setup.flat
  pub functions : AreSoundFunctions setup.functions

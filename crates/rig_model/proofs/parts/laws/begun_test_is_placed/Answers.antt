use Rattle.rig_model.proofs.PartsLemmas.Places.{begun_placed}
use Rattle.rig_model.proofs.parts.laws.begun_test_is_placed.Goals as goal

pub returns : goal.returns
returns c = begun_placed

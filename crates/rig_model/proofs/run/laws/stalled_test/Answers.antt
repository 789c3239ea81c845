use Rattle.rig_model.proofs.RunLemmas.Worked.{stalled_test}
use Rattle.rig_model.proofs.run.laws.stalled_test.Goals as goal

pub returns : goal.returns
returns c = stalled_test

use Rattle.rig_model.proofs.RunLemmas.Worked.{no_test}
use Rattle.rig_model.proofs.run.laws.no_test.Goals as goal

pub returns : goal.returns
returns c = no_test

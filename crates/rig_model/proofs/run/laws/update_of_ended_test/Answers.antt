use Rattle.rig_model.proofs.RunLemmas.Worked.{update_of_ended_test}
use Rattle.rig_model.proofs.run.laws.update_of_ended_test.Goals as goal

pub returns : goal.returns
returns c = update_of_ended_test

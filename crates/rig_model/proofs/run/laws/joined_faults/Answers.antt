use Rattle.rig_model.proofs.RunLemmas.Worked.{joined_faults}
use Rattle.rig_model.proofs.run.laws.joined_faults.Goals as goal

pub returns : goal.returns
returns c = joined_faults

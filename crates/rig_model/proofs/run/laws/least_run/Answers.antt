use Rattle.rig_model.proofs.RunLemmas.Worked.{least_run}
use Rattle.rig_model.proofs.run.laws.least_run.Goals as goal

pub returns : goal.returns
returns c = least_run

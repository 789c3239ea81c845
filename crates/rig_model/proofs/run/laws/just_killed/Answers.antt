use Rattle.rig_model.proofs.RunLemmas.Worked.{just_killed}
use Rattle.rig_model.proofs.run.laws.just_killed.Goals as goal

pub returns : goal.returns
returns c = just_killed

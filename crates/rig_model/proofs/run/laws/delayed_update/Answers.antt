use Rattle.rig_model.proofs.RunLemmas.Worked.{delayed_update}
use Rattle.rig_model.proofs.run.laws.delayed_update.Goals as goal

pub returns : goal.returns
returns c = delayed_update

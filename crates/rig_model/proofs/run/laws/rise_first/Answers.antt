use Rattle.rig_model.proofs.RunLemmas.Worked.{rise_first}
use Rattle.rig_model.proofs.run.laws.rise_first.Goals as goal

pub returns : goal.returns
returns c = rise_first

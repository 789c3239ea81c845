use Rattle.rig_model.proofs.RunLemmas.Gone.{killed_gone}
use Rattle.rig_model.proofs.run.laws.killed_is_gone.Goals as goal

pub returns : goal.returns
returns c = killed_gone

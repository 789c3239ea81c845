use Rattle.rig_model.proofs.RunLemmas.Worked.{amid_delay}
use Rattle.rig_model.proofs.run.laws.amid_delay.Goals as goal

pub returns : goal.returns
returns c = amid_delay

use Rattle.rig_model.proofs.RunLemmas.Worked.{ties}
use Rattle.rig_model.proofs.run.laws.ties.Goals as goal

pub returns : goal.returns
returns c = ties

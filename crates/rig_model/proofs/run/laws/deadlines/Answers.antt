use Rattle.rig_model.proofs.RunLemmas.Worked.{deadlines}
use Rattle.rig_model.proofs.run.laws.deadlines.Goals as goal

pub returns : goal.returns
returns c = deadlines

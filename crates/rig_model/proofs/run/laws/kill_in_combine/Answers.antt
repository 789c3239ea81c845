use Rattle.rig_model.proofs.RunLemmas.Worked.{kill_in_combine}
use Rattle.rig_model.proofs.run.laws.kill_in_combine.Goals as goal

pub returns : goal.returns
returns c = kill_in_combine

use Rattle.rig_model.proofs.RunLemmas.Worked.{kill_of_woken}
use Rattle.rig_model.proofs.run.laws.kill_of_woken.Goals as goal

pub returns : goal.returns
returns c = kill_of_woken

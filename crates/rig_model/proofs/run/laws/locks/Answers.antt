use Rattle.rig_model.proofs.RunLemmas.Worked.{locks}
use Rattle.rig_model.proofs.run.laws.locks.Goals as goal

pub returns : goal.returns
returns c = locks

use Rattle.rig_model.proofs.TaskLemmas.Worked.{timeouts}
use Rattle.rig_model.proofs.task.laws.timeouts.Goals as goal

pub returns : goal.returns
returns c = timeouts

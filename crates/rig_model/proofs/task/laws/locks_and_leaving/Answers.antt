use Rattle.rig_model.proofs.TaskLemmas.Worked.{locks_and_leaving}
use Rattle.rig_model.proofs.task.laws.locks_and_leaving.Goals as goal

pub returns : goal.returns
returns c = locks_and_leaving

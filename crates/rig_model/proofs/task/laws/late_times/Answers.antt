use Rattle.rig_model.proofs.TaskLemmas.Worked.{late_times}
use Rattle.rig_model.proofs.task.laws.late_times.Goals as goal

pub returns : goal.returns
returns c = late_times

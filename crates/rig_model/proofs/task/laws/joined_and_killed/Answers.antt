use Rattle.rig_model.proofs.TaskLemmas.Worked.{joined_and_killed}
use Rattle.rig_model.proofs.task.laws.joined_and_killed.Goals as goal

pub returns : goal.returns
returns c = joined_and_killed

use Rattle.rig_model.proofs.TaskLemmas.Worked.{far_numbers}
use Rattle.rig_model.proofs.task.laws.far_numbers.Goals as goal

pub returns : goal.returns
returns c = far_numbers

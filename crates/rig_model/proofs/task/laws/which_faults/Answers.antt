use Rattle.rig_model.proofs.TaskLemmas.Worked.{which_faults}
use Rattle.rig_model.proofs.task.laws.which_faults.Goals as goal

pub returns : goal.returns
returns c = which_faults

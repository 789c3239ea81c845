use Rattle.rig_model.proofs.TaskLemmas.Bounds.{number_stays}
use Rattle.rig_model.proofs.task.laws.number_stays.Goals as goal

pub returns : goal.returns
returns c = number_stays

use Rattle.rig_model.proofs.TaskLemmas.KeptLaws.{names_stay}
use Rattle.rig_model.proofs.task.laws.names_stay.Goals as goal

pub returns : goal.returns
returns c = names_stay

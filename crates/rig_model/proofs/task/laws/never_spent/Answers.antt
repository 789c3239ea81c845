use Rattle.rig_model.proofs.TaskLemmas.KeptLaws.{never_spent}
use Rattle.rig_model.proofs.task.laws.never_spent.Goals as goal

pub returns : goal.returns
returns c = never_spent

use Rattle.rig_model.proofs.TaskLemmas.Bounds.{cost_at_most_one}
use Rattle.rig_model.proofs.task.laws.cost_at_most_one.Goals as goal

pub returns : goal.returns
returns c = cost_at_most_one

use Rattle.rig_model.proofs.TaskLemmas.Weights.{free_step_falls}
use Rattle.rig_model.proofs.task.laws.free_step_falls.Goals as goal

pub returns : goal.returns
returns c = free_step_falls

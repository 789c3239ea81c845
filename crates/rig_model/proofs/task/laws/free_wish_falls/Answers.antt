use Rattle.rig_model.proofs.TaskLemmas.Weights.{free_wish_falls}
use Rattle.rig_model.proofs.task.laws.free_wish_falls.Goals as goal

pub returns : goal.returns
returns c = free_wish_falls

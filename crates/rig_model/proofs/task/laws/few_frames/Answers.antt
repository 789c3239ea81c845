use Rattle.rig_model.proofs.TaskLemmas.Bounds.{few_frames}
use Rattle.rig_model.proofs.task.laws.few_frames.Goals as goal

pub returns : goal.returns
returns c = few_frames

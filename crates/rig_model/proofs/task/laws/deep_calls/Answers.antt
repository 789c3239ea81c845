use Rattle.rig_model.proofs.TaskLemmas.Worked.{deep_calls}
use Rattle.rig_model.proofs.task.laws.deep_calls.Goals as goal

pub returns : goal.returns
returns c = deep_calls

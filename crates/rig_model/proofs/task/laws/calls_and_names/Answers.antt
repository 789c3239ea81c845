use Rattle.rig_model.proofs.TaskLemmas.Worked.{calls_and_names}
use Rattle.rig_model.proofs.task.laws.calls_and_names.Goals as goal

pub returns : goal.returns
returns c = calls_and_names

use Rattle.rig_model.proofs.TaskLemmas.Worked.{handler_names}
use Rattle.rig_model.proofs.task.laws.handler_names.Goals as goal

pub returns : goal.returns
returns c = handler_names

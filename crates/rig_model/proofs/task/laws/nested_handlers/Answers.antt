use Rattle.rig_model.proofs.TaskLemmas.Worked.{nested_handlers}
use Rattle.rig_model.proofs.task.laws.nested_handlers.Goals as goal

pub returns : goal.returns
returns c = nested_handlers

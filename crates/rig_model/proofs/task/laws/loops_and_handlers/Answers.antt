use Rattle.rig_model.proofs.TaskLemmas.Worked.{loops_and_handlers}
use Rattle.rig_model.proofs.task.laws.loops_and_handlers.Goals as goal

pub returns : goal.returns
returns c = loops_and_handlers

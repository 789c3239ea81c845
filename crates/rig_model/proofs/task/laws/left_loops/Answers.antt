use Rattle.rig_model.proofs.TaskLemmas.Worked.{left_loops}
use Rattle.rig_model.proofs.task.laws.left_loops.Goals as goal

pub returns : goal.returns
returns c = left_loops

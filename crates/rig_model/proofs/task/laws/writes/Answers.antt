use Rattle.rig_model.proofs.TaskLemmas.Worked.{writes}
use Rattle.rig_model.proofs.task.laws.writes.Goals as goal

pub returns : goal.returns
returns c = writes

use Rattle.rig_model.proofs.TaskLemmas.Worked.{one_cycle}
use Rattle.rig_model.proofs.task.laws.one_cycle.Goals as goal

pub returns : goal.returns
returns c = one_cycle

use Rattle.rig_model.proofs.TaskLemmas.Worked.{bad_fails}
use Rattle.rig_model.proofs.task.laws.bad_fails.Goals as goal

pub returns : goal.returns
returns c = bad_fails

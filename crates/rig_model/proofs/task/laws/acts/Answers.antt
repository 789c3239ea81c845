use Rattle.rig_model.proofs.TaskLemmas.Worked.{acts}
use Rattle.rig_model.proofs.task.laws.acts.Goals as goal

pub returns : goal.returns
returns c = acts

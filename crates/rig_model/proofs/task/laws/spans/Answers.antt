use Rattle.rig_model.proofs.TaskLemmas.Worked.{spans}
use Rattle.rig_model.proofs.task.laws.spans.Goals as goal

pub returns : goal.returns
returns c = spans

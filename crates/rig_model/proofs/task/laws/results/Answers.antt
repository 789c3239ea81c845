use Rattle.rig_model.proofs.TaskLemmas.Worked.{results}
use Rattle.rig_model.proofs.task.laws.results.Goals as goal

pub returns : goal.returns
returns c = results

use Rattle.rig_model.proofs.TaskLemmas.Worked.{whole_numbers}
use Rattle.rig_model.proofs.task.laws.whole_numbers.Goals as goal

pub returns : goal.returns
returns c = whole_numbers

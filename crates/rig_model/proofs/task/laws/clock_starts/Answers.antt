use Rattle.rig_model.proofs.TaskLemmas.Worked.{clock_starts}
use Rattle.rig_model.proofs.task.laws.clock_starts.Goals as goal

pub returns : goal.returns
returns c = clock_starts

use Rattle.rig_model.proofs.TaskLemmas.Polls.{poll_number}
use Rattle.rig_model.proofs.task.laws.poll_keeps_number.Goals as goal

pub returns : goal.returns
returns c = poll_number

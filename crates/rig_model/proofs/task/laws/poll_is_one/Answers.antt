use Rattle.rig_model.proofs.TaskLemmas.Polls.{poll_is_one}
use Rattle.rig_model.proofs.task.laws.poll_is_one.Goals as goal

pub returns : goal.returns
returns c = poll_is_one

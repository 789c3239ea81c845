use Rattle.rig_model.proofs.TaskLemmas.Polls.{poll_exists}
use Rattle.rig_model.proofs.task.laws.poll_exists.Goals as goal

pub returns : goal.returns
returns c = poll_exists

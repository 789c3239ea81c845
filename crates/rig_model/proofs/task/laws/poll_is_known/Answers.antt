use Rattle.rig_model.proofs.TaskLemmas.PollKnown.{poll_is_known}
use Rattle.rig_model.proofs.task.laws.poll_is_known.Goals as goal

pub returns : goal.returns
returns c = poll_is_known

use Rattle.scheduler.proofs.Runs.{begin_timely}
use Rattle.scheduler.proofs.laws.begin_is_timely.Goals as goal

pub returns : goal.returns
returns c = begin_timely

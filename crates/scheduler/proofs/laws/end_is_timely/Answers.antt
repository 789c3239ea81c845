use Rattle.scheduler.proofs.Runs.{end_timely}
use Rattle.scheduler.proofs.laws.end_is_timely.Goals as goal

pub returns : goal.returns
returns c = end_timely

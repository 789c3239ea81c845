use Rattle.scheduler.proofs.Runs.{time_bounded}
use Rattle.scheduler.proofs.laws.time_is_bounded.Goals as goal

pub returns : goal.returns
returns c = time_bounded

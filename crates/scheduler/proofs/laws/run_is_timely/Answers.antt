use Rattle.scheduler.proofs.Runs.{run_timely}
use Rattle.scheduler.proofs.laws.run_is_timely.Goals as goal

pub returns : goal.returns
returns c = run_timely

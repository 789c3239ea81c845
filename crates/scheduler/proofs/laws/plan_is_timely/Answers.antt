use Rattle.scheduler.proofs.Runs.{plan_timely}
use Rattle.scheduler.proofs.laws.plan_is_timely.Goals as goal

pub returns : goal.returns
returns c = plan_timely

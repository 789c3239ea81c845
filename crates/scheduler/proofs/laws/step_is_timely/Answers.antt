use Rattle.scheduler.proofs.Steps.{step_timely}
use Rattle.scheduler.proofs.laws.step_is_timely.Goals as goal

pub returns : goal.returns
returns c = step_timely

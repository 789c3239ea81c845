use Rattle.scheduler.proofs.Steps.{wider}
use Rattle.scheduler.proofs.laws.later_bound_is_wider.Goals as goal

pub returns : goal.returns
returns c = wider

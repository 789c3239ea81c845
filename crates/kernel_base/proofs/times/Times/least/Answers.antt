use Rattle.kernel_base.proofs.TimeSets.{least_first}
use Rattle.kernel_base.proofs.times.Times.least.Goals as goal

pub returns-in-Some : goal.returns-in-Some
returns-in-Some c = least_first _ _ c.in-Some.ensures.first c.in-Some.ensures.all_from

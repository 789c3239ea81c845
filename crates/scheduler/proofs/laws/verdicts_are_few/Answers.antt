use Rattle.scheduler.proofs.Runs.{verdicts_few}
use Rattle.scheduler.proofs.laws.verdicts_are_few.Goals as goal

pub returns : goal.returns
returns c = verdicts_few

use Rattle.scheduler.proofs.Falling.{turn_falls}
use Rattle.scheduler.proofs.turn_laws.turn_falls.Goals as goal

pub returns : goal.returns
returns c = turn_falls

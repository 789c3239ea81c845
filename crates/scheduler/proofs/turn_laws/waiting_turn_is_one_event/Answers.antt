use Rattle.scheduler.proofs.Between.{one_step}
use Rattle.scheduler.proofs.turn_laws.waiting_turn_is_one_event.Goals as goal

pub returns : goal.returns
returns c = one_step

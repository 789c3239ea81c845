use Rattle.scheduler.proofs.Planned.{effect_planned}
use Rattle.scheduler.proofs.turn_laws.effects_plan_nothing.Goals as goal

pub returns : goal.returns
returns c = effect_planned

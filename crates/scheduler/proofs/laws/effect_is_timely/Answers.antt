use Rattle.scheduler.proofs.Effects.{effects_timely}
use Rattle.scheduler.proofs.laws.effect_is_timely.Goals as goal

pub returns : goal.returns
returns c = effects_timely

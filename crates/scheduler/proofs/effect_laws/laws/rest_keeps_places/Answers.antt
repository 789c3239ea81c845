use Rattle.scheduler.proofs.EffectLawsLemmas.Effects.{rest_stands}
use Rattle.scheduler.proofs.effect_laws.laws.rest_keeps_places.Goals as goal

pub returns : goal.returns
returns c = rest_stands

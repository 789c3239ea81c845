use Rattle.scheduler.proofs.EffectLawsLemmas.Effects.{effect_stands}
use Rattle.scheduler.proofs.effect_laws.laws.effect_keeps_places.Goals as goal

pub returns : goal.returns
returns c = effect_stands

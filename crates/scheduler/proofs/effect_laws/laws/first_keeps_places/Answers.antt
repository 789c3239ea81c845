use Rattle.scheduler.proofs.EffectLawsLemmas.Effects.{first_stands}
use Rattle.scheduler.proofs.effect_laws.laws.first_keeps_places.Goals as goal

pub returns : goal.returns
returns c = first_stands

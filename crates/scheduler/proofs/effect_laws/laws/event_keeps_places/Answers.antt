use Rattle.scheduler.proofs.EffectLawsLemmas.Effects.{evented_stands}
use Rattle.scheduler.proofs.effect_laws.laws.event_keeps_places.Goals as goal

pub returns : goal.returns
returns c = evented_stands

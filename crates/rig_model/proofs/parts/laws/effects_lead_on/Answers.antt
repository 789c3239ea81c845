use Rattle.rig_model.proofs.PartsLemmas.Queues.{leads_on}
use Rattle.rig_model.proofs.parts.laws.effects_lead_on.Goals as goal

pub returns : goal.returns
returns c = leads_on

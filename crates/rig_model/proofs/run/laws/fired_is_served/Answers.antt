use Rattle.rig_model.proofs.RunLemmas.Served.{step_fired}
use Rattle.rig_model.proofs.run.laws.fired_is_served.Goals as goal

pub returns : goal.returns
returns c = step_fired

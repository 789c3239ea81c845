use Rattle.rig_model.proofs.PartsLemmas.Places.{apart}
use Rattle.rig_model.proofs.parts.laws.placed_tasks_are_apart.Goals as goal

pub returns : goal.returns
returns c = apart

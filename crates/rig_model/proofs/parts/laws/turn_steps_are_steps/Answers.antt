use Rattle.rig_model.proofs.PartsLemmas.Steps.{turn_anywhere}
use Rattle.rig_model.proofs.parts.laws.turn_steps_are_steps.Goals as goal

pub returns : goal.returns
returns c = turn_anywhere

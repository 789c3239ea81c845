use Rattle.rig_model.proofs.PartsLemmas.Steps.{fit_then, turn_then}
use Rattle.rig_model.proofs.parts.laws.steps_follow_steps.Goals as goal

pub returns-clause-steps : goal.returns-clause-steps
returns-clause-steps c = fit_then

pub returns-clause-turn : goal.returns-clause-turn
returns-clause-turn c = turn_then

use Rattle.rig_model.proofs.PartsLemmas.Steps.{one_fits, one_turns}
use Rattle.rig_model.proofs.parts.laws.one_step_fits.Goals as goal

pub returns-clause-step : goal.returns-clause-step
returns-clause-step c = λ from setup budget fuel run case cases. one_fits setup budget fuel run from case cases

pub returns-clause-turn : goal.returns-clause-turn
returns-clause-turn c = one_turns

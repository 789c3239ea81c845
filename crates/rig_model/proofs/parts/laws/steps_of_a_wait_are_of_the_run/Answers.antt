use Rattle.rig_model.proofs.PartsLemmas.Steps.{wait_runs_on}
use Rattle.rig_model.proofs.parts.laws.steps_of_a_wait_are_of_the_run.Goals as goal

pub returns : goal.returns
returns c = λ setup count budget fuel run cases lines left d. wait_runs_on setup budget fuel run count cases lines left d

use Rattle.rig_model.proofs.PartsLemmas.Steps.{test_runs_on}
use Rattle.rig_model.proofs.parts.laws.steps_of_a_test_are_of_the_run.Goals as goal

pub returns : goal.returns
returns c = λ from setup count budget fuel run case cases lines left d. test_runs_on setup budget fuel run from count case cases lines left d

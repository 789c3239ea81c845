use Rattle.v_design.proofs.StepLaws as laws
use Rattle.v_design.proofs.laws.step_is_positive.Goals as goal

pub returns : goal.returns
returns c = laws.step_is_positive

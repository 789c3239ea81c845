use Rattle.run_laws.proofs.RemainderLemmas.Runs.{step_remainder}
use Rattle.run_laws.proofs.remainder.laws.remainder_of_a_step.Goals as goal

pub returns : goal.returns
returns c = step_remainder

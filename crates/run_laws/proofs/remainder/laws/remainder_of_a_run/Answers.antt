use Rattle.run_laws.proofs.RemainderLemmas.Runs.{run_remainder}
use Rattle.run_laws.proofs.remainder.laws.remainder_of_a_run.Goals as goal

pub returns : goal.returns
returns c = run_remainder

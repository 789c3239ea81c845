use Rattle.run_laws.proofs.RemainderLemmas.Runs.{marked_remainder}
use Rattle.run_laws.proofs.remainder.laws.remainder_behind_a_mark.Goals as goal

pub returns : goal.returns
returns c = marked_remainder

use Rattle.run_laws.proofs.SeparateTestsLemmas.Idle.{nothing_between}
use Rattle.run_laws.proofs.separate_tests.laws.nothing_is_left_between_tests.Goals as goal

pub returns : goal.returns
returns c = nothing_between

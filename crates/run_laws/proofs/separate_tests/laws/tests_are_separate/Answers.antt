use Rattle.run_laws.proofs.SeparateTestsLemmas.Runs.{separate_tests}
use Rattle.run_laws.proofs.separate_tests.laws.tests_are_separate.Goals as goal

pub returns : goal.returns
returns c = separate_tests

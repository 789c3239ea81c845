use Rattle.run_laws.proofs.SeparateTestsLemmas.Runs.{separate_runs}
use Rattle.run_laws.proofs.separate_tests.laws.runs_are_separate.Goals as goal

pub returns : goal.returns
returns c = separate_runs

use Rattle.run_laws.proofs.WavesLemmas.Texts.{of_runs}
use Rattle.run_laws.proofs.waves.laws.changes_are_of_runs.Goals as goal

pub returns : goal.returns
returns c = of_runs

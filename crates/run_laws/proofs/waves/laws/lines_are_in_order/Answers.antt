use Rattle.run_laws.proofs.WavesLemmas.Runs.{lines_rise}
use Rattle.run_laws.proofs.waves.laws.lines_are_in_order.Goals as goal

pub returns : goal.returns
returns c = lines_rise

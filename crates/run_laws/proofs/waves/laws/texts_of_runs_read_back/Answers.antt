use Rattle.run_laws.proofs.WavesLemmas.Texts.{read_back}
use Rattle.run_laws.proofs.waves.laws.texts_of_runs_read_back.Goals as goal

pub returns : goal.returns
returns c = read_back

use Rattle.rig_model.proofs.RunLemmas.Worked.{random_numbers}
use Rattle.rig_model.proofs.run.laws.random_numbers.Goals as goal

pub returns : goal.returns
returns c = random_numbers

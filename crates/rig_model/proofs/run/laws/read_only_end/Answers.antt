use Rattle.rig_model.proofs.RunLemmas.Worked.{read_only_end}
use Rattle.rig_model.proofs.run.laws.read_only_end.Goals as goal

pub returns : goal.returns
returns c = read_only_end

use Rattle.rig_model.proofs.RunLemmas.Worked.{phase_last}
use Rattle.rig_model.proofs.run.laws.phase_last.Goals as goal

pub returns : goal.returns
returns c = phase_last

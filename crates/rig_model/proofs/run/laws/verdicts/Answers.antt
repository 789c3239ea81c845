use Rattle.rig_model.proofs.RunLemmas.Worked.{verdicts}
use Rattle.rig_model.proofs.run.laws.verdicts.Goals as goal

pub returns : goal.returns
returns c = verdicts

use Rattle.rig_model.proofs.RunLemmas.Worked.{set_and_clear}
use Rattle.rig_model.proofs.run.laws.set_and_clear.Goals as goal

pub returns : goal.returns
returns c = set_and_clear

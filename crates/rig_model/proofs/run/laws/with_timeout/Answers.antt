use Rattle.rig_model.proofs.RunLemmas.Worked.{with_timeout}
use Rattle.rig_model.proofs.run.laws.with_timeout.Goals as goal

pub returns : goal.returns
returns c = with_timeout

use Rattle.rig_model.proofs.RunLemmas.Gone.{ended_empty}
use Rattle.rig_model.proofs.run.laws.ended_is_empty.Goals as goal

pub returns : goal.returns
returns c = ended_empty

use Rattle.rig_model.proofs.RunLemmas.Worked.{no_past_edge}
use Rattle.rig_model.proofs.run.laws.no_past_edge.Goals as goal

pub returns : goal.returns
returns c = no_past_edge

use Rattle.rig_model.proofs.RunLemmas.Fronts.{start_is_front}
use Rattle.rig_model.proofs.run.laws.lines_are_a_front.Goals as goal

pub returns : goal.returns
returns c = start_is_front

use Rattle.rig_model.proofs.RunLemmas.Worked.{gives_way}
use Rattle.rig_model.proofs.run.laws.gives_way.Goals as goal

pub returns : goal.returns
returns c = gives_way

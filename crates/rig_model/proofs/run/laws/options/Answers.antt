use Rattle.rig_model.proofs.RunLemmas.Worked.{options}
use Rattle.rig_model.proofs.run.laws.options.Goals as goal

pub returns : goal.returns
returns c = options

use Rattle.rig_model.proofs.RunLemmas.Whole.{run_unique}
use Rattle.rig_model.proofs.run.laws.run_is_one.Goals as goal

pub returns : goal.returns
returns c = run_unique

use Rattle.rig_model.proofs.RunLemmas.Worked.{largest_time}
use Rattle.rig_model.proofs.run.laws.largest_time.Goals as goal

pub returns : goal.returns
returns c = largest_time

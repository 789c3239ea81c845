use Rattle.rig_model.proofs.RunLemmas.Worked.{repeated_writes}
use Rattle.rig_model.proofs.run.laws.repeated_writes.Goals as goal

pub returns : goal.returns
returns c = repeated_writes

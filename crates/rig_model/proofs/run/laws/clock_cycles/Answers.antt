use Rattle.rig_model.proofs.RunLemmas.Worked.{clock_cycles}
use Rattle.rig_model.proofs.run.laws.clock_cycles.Goals as goal

pub returns : goal.returns
returns c = clock_cycles

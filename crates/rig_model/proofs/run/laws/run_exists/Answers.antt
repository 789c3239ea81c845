use Rattle.rig_model.proofs.RunLemmas.Exists.{run_stops}
use Rattle.rig_model.proofs.run.laws.run_exists.Goals as goal

pub returns : goal.returns
returns c = run_stops

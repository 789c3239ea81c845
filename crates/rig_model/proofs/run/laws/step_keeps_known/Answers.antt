use Rattle.rig_model.proofs.RunLemmas.KnownRuns.{run_step_known}
use Rattle.rig_model.proofs.run.laws.step_keeps_known.Goals as goal

pub returns : goal.returns
returns c = run_step_known

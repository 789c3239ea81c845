use Rattle.rig_model.proofs.RunLemmas.Costs.{run_within}
use Rattle.rig_model.proofs.run.laws.run_is_within_budget.Goals as goal

pub returns : goal.returns
returns c = run_within

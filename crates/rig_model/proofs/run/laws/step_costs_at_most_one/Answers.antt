use Rattle.rig_model.proofs.RunLemmas.Costs.{step_cost_least}
use Rattle.rig_model.proofs.run.laws.step_costs_at_most_one.Goals as goal

pub returns : goal.returns
returns c = step_cost_least

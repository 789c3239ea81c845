use Rattle.rig_model.proofs.RunLemmas.Worked.{exact_budget}
use Rattle.rig_model.proofs.run.laws.exact_budget.Goals as goal

pub returns : goal.returns
returns c = exact_budget

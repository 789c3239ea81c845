use Rattle.rig_model.proofs.RunLemmas.Worked.{budgets}
use Rattle.rig_model.proofs.run.laws.budgets.Goals as goal

pub returns : goal.returns
returns c = budgets

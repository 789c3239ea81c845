use Rattle.test_refusal.proofs.ItemsLemmas.Functions.{misfit_by_parts}
use Rattle.test_refusal.proofs.items.laws.misfit_by_parts.Goals as goal

pub returns : goal.returns
returns c = misfit_by_parts

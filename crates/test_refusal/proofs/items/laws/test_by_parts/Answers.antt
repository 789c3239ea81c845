use Rattle.test_refusal.proofs.ItemsLemmas.Functions.{test_by_parts}
use Rattle.test_refusal.proofs.items.laws.test_by_parts.Goals as goal

pub returns : goal.returns
returns c = test_by_parts

use Rattle.test_refusal.proofs.ItemsLemmas.Functions.{test_with_item}
use Rattle.test_refusal.proofs.items.laws.test_with_item.Goals as goal

pub returns : goal.returns
returns c = test_with_item

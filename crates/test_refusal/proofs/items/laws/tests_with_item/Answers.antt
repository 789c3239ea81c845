use Rattle.test_refusal.proofs.ItemsLemmas.Counts.{tests_with_item}
use Rattle.test_refusal.proofs.items.laws.tests_with_item.Goals as goal

pub returns : goal.returns
returns c = tests_with_item

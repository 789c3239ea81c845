use Rattle.test_refusal.proofs.ItemsLemmas.Lines.{by_items}
use Rattle.test_refusal.proofs.items.laws.first_by_items.Goals as goal

pub returns : goal.returns
returns c = by_items

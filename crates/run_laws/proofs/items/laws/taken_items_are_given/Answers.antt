use Rattle.run_laws.proofs.ItemsLemmas.Taken.{item_given}
use Rattle.run_laws.proofs.items.laws.taken_items_are_given.Goals as goal

pub returns : goal.returns
returns c = item_given

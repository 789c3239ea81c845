use Rattle.run_laws.proofs.ItemsLemmas.Account.{run_balanced}
use Rattle.run_laws.proofs.items.laws.items_are_neither_lost_nor_doubled.Goals as goal

pub returns : goal.returns
returns c = run_balanced

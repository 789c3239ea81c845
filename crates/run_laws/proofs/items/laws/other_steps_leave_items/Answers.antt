use Rattle.run_laws.proofs.ItemsLemmas.Account.{account_left, items_left}
use Rattle.run_laws.proofs.items.laws.other_steps_leave_items.Goals as goal

pub returns : goal.returns
returns c = record {
  items = λ setup rig queue. items_left setup queue rig;
  account = λ setup rig queue a. account_left setup queue rig a;
}

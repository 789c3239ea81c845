use Rattle.std.proofs.Common.{◌≡◌, ◌≤◌, ◌-◌, false, length, take}
use Rattle.std.specs.List.{list_any}
use Rattle.await_tree.specs.Fire.{awaits}
use Rattle.await_tree.specs.WaitList.Waiting.{Waiting}
use Rattle.plain_waits.specs.Kept.{waiting_in}
use Rattle.plain_waits.proofs.keeper.WaitList.first_on.Given as goal

abbrev pub invariant-loop-at : goal.invariant-loop-at
invariant-loop-at l = record {
  inside : l.at ≤ length l.self.waiting.items;
  before : list_any (λ (w : Waiting). awaits l.on w.tree) (take l.at (waiting_in l.self)) ≡ false;
}

abbrev pub decreases-loop-at : goal.decreases-loop-at
decreases-loop-at l = length l.self.waiting.items - l.at

use Rattle.std.proofs.Common.{◌≡◌, ◌≤◌, ◌-◌, ◌++◌, length, take, drop}
use Rattle.await_tree.specs.WaitList.Keys.{without}
use Rattle.plain_waits.proofs.keeper.WaitList.take_out.Given as goal

abbrev pub invariant-loop-at : goal.invariant-loop-at
invariant-loop-at l = record {
  held : take l.at l.self.held.items ++ without l.key (drop l.at l.self.held.items) ≡ without l.key l.fn.self.held.items;
  inside : l.at ≤ length l.self.held.items;
  waiting : l.self.waiting ≡ l.fn.self.waiting;
}

abbrev pub decreases-loop-at : goal.decreases-loop-at
decreases-loop-at l = length l.self.held.items - l.at

use Rattle.std.proofs.Common.{◌≡◌, ◌≤◌, ◌-◌, ◌++◌, length, take, drop}
use Rattle.gpi.specs.State.{with_delayed}
use Rattle.list_kernel.proofs.updates.insert_delayed.Given as goal

abbrev pub invariant-loop-at : goal.invariant-loop-at
invariant-loop-at l = record {
  inside : l.at ≤ length l.list.items;
  placed : take l.at l.list.items ++ with_delayed l.delayed (drop l.at l.list.items) ≡ with_delayed l.delayed l.list.items;
}

abbrev pub decreases-loop-at : goal.decreases-loop-at
decreases-loop-at l = length l.list.items - l.at

use Rattle.std.proofs.Common.{◌≡◌, ◌≤◌, ◌-◌, ◌+◌, ◌++◌, length, take, drop, vec_capacity}
use Rattle.gpi.specs.State.{arriving, waiting_on}
use Rattle.list_kernel.proofs.updates.Updates.arrive.Given as goal

abbrev pub invariant-loop-at : goal.invariant-loop-at
invariant-loop-at l = record {
  inside : l.at ≤ length l.self.delayed.items;
  later : l.self.later.items ++ arriving l.time (drop l.at l.self.delayed.items) ≡ arriving l.time l.fn.self.delayed.items;
  delayed : take l.at l.self.delayed.items ++ waiting_on l.time (drop l.at l.self.delayed.items) ≡ waiting_on l.time l.fn.self.delayed.items;
  room : length l.self.later.items + length l.self.delayed.items ≤ vec_capacity l.self.later;
  capacity : vec_capacity l.self.later ≡ vec_capacity l.fn.self.later;
  fewer : length l.self.delayed.items ≤ length l.fn.self.delayed.items;
  due : l.self.due ≡ l.fn.self.due;
  appended : l.self.appended ≡ l.fn.self.appended;
}

abbrev pub decreases-loop-at : goal.decreases-loop-at
decreases-loop-at l = length l.self.delayed.items - l.at

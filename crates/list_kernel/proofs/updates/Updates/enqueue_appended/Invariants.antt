use Rattle.std.proofs.Common.{◌≡◌, ◌≤◌, ◌-◌, ◌++◌, length, drop}
use Rattle.gpi.specs.State.{at_once, all_delaying}
use Rattle.list_kernel.specs.Updates.{HasRoom}
use Rattle.list_kernel.proofs.updates.Updates.enqueue_appended.Given as goal

abbrev pub invariant-loop-at : goal.invariant-loop-at
invariant-loop-at l = record {
  inside : l.at ≤ length l.self.appended.items;
  due : l.self.due ≡ l.fn.self.due;
  appended : l.self.appended ≡ l.fn.self.appended;
  later : l.self.later.items ++ at_once (drop l.at l.self.appended.items) ≡ l.fn.self.later.items ++ at_once l.fn.self.appended.items;
  delayed : all_delaying l.now (drop l.at l.self.appended.items) l.self.delayed.items ≡ all_delaying l.now l.fn.self.appended.items l.fn.self.delayed.items;
  room : HasRoom (length l.self.appended.items - l.at) l.self;
}

abbrev pub decreases-loop-at : goal.decreases-loop-at
decreases-loop-at l = length l.self.appended.items - l.at

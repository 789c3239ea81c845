use Rattle.std.proofs.Common.{◌≡◌, ◌≤◌, ◌-◌, ◌++◌, length, take, drop}
use Rattle.await_tree.specs.WaitList.Ring.{has_entry, without_entry}
use Rattle.await_tree.proofs.wait_list.ready.Ready.take_out.Given as goal

abbrev pub invariant-loop-left : goal.invariant-loop-left
invariant-loop-left l = record {
  left : l.left ≤ length l.fn.self.entries;
  entries : l.self.entries ≡ drop (length l.fn.self.entries - l.left) l.fn.self.entries ++ without_entry l.task (take (length l.fn.self.entries - l.left) l.fn.self.entries);
  found : l.found ≡ has_entry l.task (take (length l.fn.self.entries - l.left) l.fn.self.entries);
  room : l.self.room ≡ l.fn.self.room;
  fits : length l.self.entries ≤ l.self.room;
}

abbrev pub decreases-loop-left : goal.decreases-loop-left
decreases-loop-left l = l.left

use Rattle.std.proofs.Common.{◌≡◌, ℕ, ◌≤◌, ◌-◌, length, drop, false}
use Rattle.gpi.specs.Keys.{holds}
use Rattle.fast_kernel.specs.Waiters.{is_marked}
use Rattle.fast_kernel.proofs.waiters.Finds.unmark.Given as goal

abbrev pub invariant-loop-at : goal.invariant-loop-at
invariant-loop-at l = record {
  inside : l.at ≤ length l.self.processes.items;
  found : l.self.processes ≡ l.fn.self.processes;
  unmarked : (q : ℕ) → holds q (drop l.at l.self.processes.items) ≡ false → is_marked l.self q ≡ false;
  count : length l.self.is_found.items ≡ length l.fn.self.is_found.items;
}

abbrev pub decreases-loop-at : goal.decreases-loop-at
decreases-loop-at l = length l.self.processes.items - l.at

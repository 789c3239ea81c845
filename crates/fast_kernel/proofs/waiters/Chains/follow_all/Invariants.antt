use Rattle.std.proofs.Common.{◌≡◌, ℕ, ◌≤◌, length, drop}
use Rattle.gpi.specs.Keys.{holds}
use Rattle.fast_kernel.specs.Waiters.{AreMarked, is_reached}
use Rattle.fast_kernel.proofs.waiters.Chains.follow_all.Given as goal

abbrev pub invariant-loop-at : goal.invariant-loop-at
invariant-loop-at l = record {
  inside : l.at ≤ length l.reports;
  reached : (q : ℕ) → holds q l.finds.processes.items ≡ is_reached l.self (drop l.at l.reports) q;
  marked : AreMarked l.finds;
  count : length l.finds.is_found.items ≡ length l.fn.finds.is_found.items;
}

abbrev pub decreases-loop-at : goal.decreases-loop-at
decreases-loop-at l = l.at

use Rattle.std.proofs.Common.{◌≡◌, ℕ, ◌≤◌, ◌||◌, length}
use Rattle.gpi.specs.Keys.{holds}
use Rattle.fast_kernel.specs.Waiters.{AreMarked, is_among, chain, chain_of}
use Rattle.fast_kernel.proofs.waiters.Chains.follow.Given as goal

abbrev pub invariant-loop-number : goal.invariant-loop-number
invariant-loop-number l = record {
  inside : l.number ≤ length l.self.links.items;
  reached : (q : ℕ) → (holds q l.finds.processes.items || is_among q l.report (chain l.self.links.items l.number))
      ≡ (holds q l.fn.finds.processes.items || is_among q l.report (chain_of l.self l.report.sig.0));
  marked : AreMarked l.finds;
  count : length l.finds.is_found.items ≡ length l.fn.finds.is_found.items;
}

abbrev pub decreases-loop-number : goal.decreases-loop-number
decreases-loop-number l = l.number

use Rattle.std.proofs.Common.{◌≡◌, ℕ, ◌<◌, ◌≤◌, ◌++◌, length, drop}
use Rattle.fast_kernel.specs.Waiters.{IsChained, chain_of, own}
use Rattle.fast_kernel.proofs.waiters.Chains.add_process.Given as goal

abbrev pub invariant-loop-at : goal.invariant-loop-at
invariant-loop-at l = record {
  inside : l.at ≤ length l.wakes;
  signals : length l.self.first.items ≡ length l.fn.self.first.items;
  chained : (n : ℕ) → l.process < n → IsChained n l.fn.self → IsChained n l.self;
  chains : (n : ℕ) → l.process < n → IsChained n l.fn.self
      → (s : ℕ) → s < length l.fn.self.first.items → chain_of l.self s ≡ own s l.process (drop l.at l.wakes) ++ chain_of l.fn.self s;
}

abbrev pub decreases-loop-at : goal.decreases-loop-at
decreases-loop-at l = l.at

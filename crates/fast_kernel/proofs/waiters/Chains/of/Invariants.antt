use Rattle.std.proofs.Common.{◌≡◌, ℕ, ◌<◌, ◌≤◌, length, drop}
use Rattle.gpi.specs.Design.{procs_of}
use Rattle.fast_kernel.specs.Waiters.{IsChained, chain_of, awaiting}
use Rattle.fast_kernel.proofs.waiters.Chains.of.Given as goal

abbrev pub invariant-loop-at : goal.invariant-loop-at
invariant-loop-at l = record {
  inside : l.at ≤ length l.processes;
  signals : length l.chains.first.items ≡ l.signals;
  chained : IsChained (length l.processes) l.chains;
  chains : (s : ℕ) → s < l.signals → chain_of l.chains s ≡ awaiting s l.at (procs_of (drop l.at l.processes));
}

abbrev pub decreases-loop-at : goal.decreases-loop-at
decreases-loop-at l = l.at

use Rattle.std.proofs.Common.{◌≡◌, ◌≤◌, length, drop}
use Rattle.list_kernel.specs.Updates.{soonest}
use Rattle.list_kernel.proofs.updates.soonest.Given as goal

abbrev pub invariant-loop-at : goal.invariant-loop-at
invariant-loop-at l = record {
  inside : l.at ≤ length l.delayed;
  found : l.found ≡ soonest (drop l.at l.delayed) l.fn.other;
}

abbrev pub decreases-loop-at : goal.decreases-loop-at
decreases-loop-at l = l.at

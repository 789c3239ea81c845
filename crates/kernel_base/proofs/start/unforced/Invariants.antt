use Rattle.std.proofs.Common.{◌≡◌, ◌≤◌, ◌-◌, None, replicate}
use Rattle.kernel_base.proofs.start.unforced.Given as goal

abbrev pub invariant-loop-at : goal.invariant-loop-at
invariant-loop-at l = record {
  inside : l.at ≤ l.signals;
  made : l.hidden.items ≡ replicate l.at None;
}

abbrev pub decreases-loop-at : goal.decreases-loop-at
decreases-loop-at l = l.signals - l.at

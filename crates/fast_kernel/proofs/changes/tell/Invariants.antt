use Rattle.std.proofs.Common.{length, ◌-◌, ◌≡◌, ◌≤◌, ◌++◌, vec_capacity, vec_len, drop}
use Rattle.fast_kernel.specs.Changes.{told}
use Rattle.fast_kernel.proofs.changes.tell.Given as goal

abbrev pub invariant-loop-at : goal.invariant-loop-at
invariant-loop-at l = record {
  inside : l.at ≤ length l.touched;
  told : l.reports.items ++ told l.shown (drop l.at l.touched) ≡ told l.shown l.touched;
  few : vec_len l.reports ≤ l.at;
  room : vec_capacity l.fn.reports ≤ vec_capacity l.reports;
}

abbrev pub decreases-loop-at : goal.decreases-loop-at
decreases-loop-at l = length l.touched - l.at

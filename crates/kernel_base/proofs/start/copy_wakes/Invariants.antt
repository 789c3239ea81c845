use Rattle.std.proofs.Common.{◌≡◌, take}
use Rattle.kernel_base.proofs.start.copy_wakes.Given as goal

abbrev pub invariant-loop-at : goal.invariant-loop-at
invariant-loop-at l = l.copies ≡ take l.at l.wakes

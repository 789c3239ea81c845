use Rattle.std.proofs.Common.{◌≡◌, ◌++◌, drop}
use Rattle.fast_kernel.specs.Kernel.{heads}
use Rattle.fast_kernel.proofs.opening.copy_headers.Given as goal

abbrev pub invariant-loop-at : goal.invariant-loop-at
invariant-loop-at l = l.headers.items ++ heads (drop l.at l.processes) ≡ heads l.processes

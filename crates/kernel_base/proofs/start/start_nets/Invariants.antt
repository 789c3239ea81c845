use Rattle.std.proofs.Common.{◌≡◌, ◌++◌, drop}
use Rattle.gpi.specs.Design.{nets_of}
use Rattle.kernel_base.proofs.start.start_nets.Given as goal

abbrev pub invariant-loop-at : goal.invariant-loop-at
invariant-loop-at l = l.nets.items ++ nets_of (drop l.at l.signals) ≡ nets_of l.signals

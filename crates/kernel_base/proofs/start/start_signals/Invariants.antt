use Rattle.std.proofs.Common.{◌≡◌, ◌++◌, drop}
use Rattle.gpi.specs.Design.{start_map}
use Rattle.kernel_base.proofs.start.start_signals.Given as goal

abbrev pub invariant-loop-at : goal.invariant-loop-at
invariant-loop-at l = l.map.items ++ start_map (drop l.at l.signals) ≡ start_map l.signals

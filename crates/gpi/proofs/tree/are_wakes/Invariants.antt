use Rattle.std.proofs.Common.{◌≡◌, drop}
use Rattle.gpi.specs.Soundness.{are_wakes}
use Rattle.gpi.proofs.tree.are_wakes.Given as goal

abbrev pub invariant-loop-at : goal.invariant-loop-at
invariant-loop-at l = are_wakes l.wakes l.signals ≡ are_wakes (drop l.at l.wakes) l.signals

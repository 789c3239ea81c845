use Rattle.std.proofs.Common.{◌≡◌, drop}
use Rattle.gpi.specs.Soundness.{are_wide}
use Rattle.gpi.proofs.tree.are_wide.Given as goal

abbrev pub invariant-loop-at : goal.invariant-loop-at
invariant-loop-at l = are_wide l.signals ≡ are_wide (drop l.at l.signals)

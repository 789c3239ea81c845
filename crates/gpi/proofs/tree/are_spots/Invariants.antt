use Rattle.std.proofs.Common.{◌≡◌, drop}
use Rattle.gpi.specs.Soundness.{are_spots}
use Rattle.gpi.proofs.tree.are_spots.Given as goal

abbrev pub invariant-loop-at : goal.invariant-loop-at
invariant-loop-at l = are_spots l.nodes l.signals l.children ≡ are_spots l.nodes l.signals (drop l.at l.children)

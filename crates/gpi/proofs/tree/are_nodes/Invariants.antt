use Rattle.std.proofs.Common.{◌≡◌, length, drop}
use Rattle.gpi.specs.Soundness.{are_nodes}
use Rattle.gpi.proofs.tree.are_nodes.Given as goal

abbrev pub invariant-loop-at : goal.invariant-loop-at
invariant-loop-at l = are_nodes (length l.nodes) l.signals l.nodes ≡ are_nodes (length l.nodes) l.signals (drop l.at l.nodes)

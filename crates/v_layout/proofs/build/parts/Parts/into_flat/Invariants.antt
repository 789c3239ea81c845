-- Those that are in order stand before those that are left, last first.
use Rattle.std.proofs.Common.{◌≡◌, ◌++◌, length, reverse}
use Rattle.v_layout.proofs.build.parts.Parts.into_flat.Given as goal

abbrev pub invariant-loop-node : goal.invariant-loop-node
invariant-loop-node l = l.all ++ reverse l.nodes.items ≡ l.fn.self.nodes.items

abbrev pub decreases-loop-node : goal.decreases-loop-node
decreases-loop-node l = length l.nodes.items

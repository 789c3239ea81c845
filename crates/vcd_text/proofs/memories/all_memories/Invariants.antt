-- The memories so far, and those of the instances that are left.
use Rattle.std.proofs.Common.{◌≡◌, ◌++◌, drop}
use Rattle.vcd_text.specs.Memories.{memories_of}
use Rattle.vcd_text.proofs.memories.all_memories.Given as goal

abbrev pub invariant-loop-at : goal.invariant-loop-at
invariant-loop-at l = l.memories.items ++ memories_of (drop l.at l.nodes) ≡ memories_of l.nodes

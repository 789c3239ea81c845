-- The memories so far, and those of the names that are left.
use Rattle.std.proofs.Common.{◌≡◌, ◌++◌, drop}
use Rattle.vcd_text.specs.Memories.{memories_in}
use Rattle.vcd_text.proofs.memories.add_memories.Given as goal

abbrev pub invariant-loop-at : goal.invariant-loop-at
invariant-loop-at l = l.memories.items ++ memories_in (drop l.at l.node.children) ≡ l.fn.memories.items ++ memories_in l.node.children

use Rattle.vcd_text.specs.Memories.{memories_in}
use Rattle.vcd_text.proofs.ListSteps.{one_more}
use Rattle.vcd_text.proofs.MemoryLaws.{memories_split}
use Rattle.vcd_text.proofs.memories.add_memories.Goals as goal

pub loop-at-preserved : goal.loop-at-preserved
loop-at-preserved c =
    one_more memories_in memories_split c.loop-at.memories.items c.add_memory.new.memories.items _ c.args.node.now.children c.loop-at.at c.get.result.now
    c.get.ensures c.in_ok-add_memory.ensures c.loop-at.invariant

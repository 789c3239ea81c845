use Rattle.vcd_text.specs.Memories.{memories_of}
use Rattle.vcd_text.proofs.ListSteps.{one_more}
use Rattle.vcd_text.proofs.MemoryLaws.{instances_split, instance_made}
use Rattle.vcd_text.proofs.memories.all_memories.Goals as goal

pub loop-at-preserved : goal.loop-at-preserved
loop-at-preserved c =
    one_more memories_of instances_split c.loop-at.memories.items c.add_memories.new.memories.items _ c.args.nodes.now c.loop-at.at c.get.result.now
    c.get.ensures (instance_made c.get.result.now c.loop-at.memories.items c.add_memories.new.memories.items c.in_ok-add_memories.ensures) c.loop-at.invariant

use Rattle.std.proofs.Common.{◌<◌, length, arith}
use Rattle.std.proofs.lemmas.Grind.{common_steps}
use Rattle.fast_kernel.proofs.Marks.{found_below}
use Rattle.fast_kernel.proofs.waiters.Finds.unmark.Goals as goal

pub index_mut-requires : goal.index_mut-requires
index_mut-requires c =
    let t : c.loop-at.at < length c.loop-at.self.processes.items = grind (arith, common_steps) in
    let h = found_below (length c.args.self.now.is_found.items) c.loop-at.at c.index.result.now c.loop-at.self.processes.items
    (rw c.loop-at.invariant.found c.requires.marked.below) t c.index.ensures in
    grind (arith, common_steps)

use Rattle.std.proofs.Common.{rules}
use Rattle.gpi.specs.Design.{widths}
use Rattle.gpi.proofs.Sound.{no_fact, go_fact, processes_fact}
use Rattle.gpi.proofs.tree.are_processes.Goals as goal

pub returns-then-not-is_process : goal.returns-then-not-is_process
returns-then-not-is_process c =
    let here = processes_fact c.args.processes.now c.loop-at.at c.get.result.now (widths c.args.table.now.signals.now) c.get.ensures in
    no_fact c.is_process.result c.loop-at.invariant here c.is_process.ensures (search rules)

pub loop-at-preserved : goal.loop-at-preserved
loop-at-preserved c =
    let here = processes_fact c.args.processes.now c.loop-at.at c.get.result.now (widths c.args.table.now.signals.now) c.get.ensures in
    go_fact c.is_process.result c.loop-at.invariant here c.is_process.ensures (search rules)

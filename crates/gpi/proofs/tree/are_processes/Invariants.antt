use Rattle.std.proofs.Common.{◌↔◌, drop}
use Rattle.gpi.specs.Design.{widths}
use Rattle.gpi.specs.Soundness.{AreProcesses}
use Rattle.gpi.proofs.tree.are_processes.Given as goal

abbrev pub invariant-loop-at : goal.invariant-loop-at
invariant-loop-at l = AreProcesses l.processes (widths l.table.signals.now)
    ↔ AreProcesses (drop l.at l.processes) (widths l.table.signals.now)

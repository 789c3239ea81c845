use Rattle.std.proofs.Common.{◌↔◌, drop}
use Rattle.gpi.specs.Design.{widths}
use Rattle.gpi.specs.Cases.{AreLabels, AreItems}
use Rattle.gpi.proofs.soundness.are_labels.Given as goal

abbrev pub invariant-loop-at : goal.invariant-loop-at
invariant-loop-at l = (AreLabels l.labels l.w (widths l.table.signals.now) × AreItems l.labels l.items)
    ↔ (AreLabels (drop l.at l.labels) l.w (widths l.table.signals.now) × AreItems (drop l.at l.labels) l.items)

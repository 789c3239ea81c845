use Rattle.std.proofs.Common.{take}
use Rattle.gpi.specs.Cases.{AreLabelCopies}
use Rattle.gpi.proofs.acts.copy_labels.Given as goal

abbrev pub invariant-loop-at : goal.invariant-loop-at
invariant-loop-at l = AreLabelCopies (take l.at l.labels) l.copies

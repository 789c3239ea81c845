use Rattle.gpi.specs.Design.{widths}
use Rattle.gpi.specs.Stretches.{AreStretchesFrom}
use Rattle.gpi.proofs.stretches.note_stretches.Given as goal

abbrev pub invariant-loop-at : goal.invariant-loop-at
invariant-loop-at l = AreStretchesFrom l.at l.stretches (widths l.signals)

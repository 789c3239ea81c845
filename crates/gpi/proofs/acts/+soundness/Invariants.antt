use Rattle.std.proofs.Common.{◌↔◌, drop}
use Rattle.gpi.specs.Design.{widths}
use Rattle.gpi.specs.Activation.{acts_of, SoundList}
use Rattle.gpi.proofs.acts.+soundness.Given as goal

abbrev pub invariant-Acts::are_sound-loop-at : goal.invariant-Acts::are_sound-loop-at
invariant-Acts::are_sound-loop-at l = SoundList (acts_of l.self) (widths l.table.signals.now)
    ↔ SoundList (drop l.at (acts_of l.self)) (widths l.table.signals.now)

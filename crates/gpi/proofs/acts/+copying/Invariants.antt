use Rattle.std.proofs.Common.{take}
use Rattle.gpi.specs.Activation.{acts_of, AreActCopies}
use Rattle.gpi.proofs.acts.+copying.Given as goal

abbrev pub invariant-copy_acts-loop-act : goal.invariant-copy_acts-loop-act
invariant-copy_acts-loop-act l = AreActCopies (take l.act-index l.act-items) (acts_of l.copies)

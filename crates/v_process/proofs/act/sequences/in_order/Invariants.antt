-- Those that are in order run before those that are left.
use Rattle.std.proofs.Common.{length}
use Rattle.gpi.specs.Activation.{acts_of}
use Rattle.v_process.proofs.ActLemmas.Blocks.{Behind}
use Rattle.v_process.proofs.act.sequences.in_order.Given as goal

abbrev pub invariant-loop-act : goal.invariant-loop-act
invariant-loop-act l = Behind l.fn.acts.items l.acts.items (acts_of l.all)

abbrev pub decreases-loop-act : goal.decreases-loop-act
decreases-loop-act l = length l.acts.items

-- The parts that are left stand before those that are together.
use Rattle.std.proofs.Common.{length}
use Rattle.v_process.proofs.AssignLemmas.Onward.{Behind}
use Rattle.v_process.proofs.assign.continuous.together.Given as goal

abbrev pub invariant-loop-part : goal.invariant-loop-part
invariant-loop-part l = Behind l.fn.parts.items l.parts.items l.found

abbrev pub decreases-loop-part : goal.decreases-loop-part
decreases-loop-part l = length l.parts.items

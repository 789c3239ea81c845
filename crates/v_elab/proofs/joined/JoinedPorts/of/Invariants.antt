-- The table has what the joints behind say.
use Rattle.std.proofs.Common.{length}
use Rattle.v_elab.specs.PortsSteps.{joined_at}
use Rattle.v_elab.proofs.Table.{Left}
use Rattle.v_elab.proofs.joined.JoinedPorts.of.Given as goal

abbrev pub invariant-loop-joint : goal.invariant-loop-joint
invariant-loop-joint l = Left l.fn.joints.list.items l.list.items (joined_at l.found)

abbrev pub decreases-loop-joint : goal.decreases-loop-joint
decreases-loop-joint l = length l.list.items

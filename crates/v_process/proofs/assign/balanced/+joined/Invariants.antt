-- Fewer parts at each step.
use Rattle.std.proofs.Common.{length}
use Rattle.v_process.proofs.assign.balanced.+joined.Given as goal

abbrev pub decreases-joined : goal.decreases-joined
decreases-joined l = length l.targets.items

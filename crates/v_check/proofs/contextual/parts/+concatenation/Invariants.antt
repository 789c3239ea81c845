-- Fewer parts at each step.
use Rattle.std.proofs.Common.{length}
use Rattle.v_check.proofs.contextual.parts.+concatenation.Given as goal

abbrev pub decreases-concatenation : goal.decreases-concatenation
decreases-concatenation l = length l.parts.items

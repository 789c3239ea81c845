-- Smaller expressions at each step.
use Rattle.std.proofs.Common.{◌+◌, ◌*◌, max}
use Rattle.v_check.specs.declared.contextual.contextual.Contextual.{size-Contextual}
use Rattle.v_check.proofs.contextual.contextual.+lowering.Given as goal

abbrev pub decreases-Contextual::lower : goal.decreases-Contextual::lower
decreases-Contextual::lower l = 2 * size-Contextual l.self

abbrev pub decreases-lower_both : goal.decreases-lower_both
decreases-lower_both l = 2 * max (size-Contextual l.a) (size-Contextual l.b) + 1

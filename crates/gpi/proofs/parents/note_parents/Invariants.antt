use Rattle.gpi.proofs.Trees.{Notes}
use Rattle.gpi.proofs.parents.note_parents.Given as goal

abbrev pub invariant-back : goal.invariant-back
invariant-back l = Notes l.at l.nodes l.parents

abbrev pub decreases-back : goal.decreases-back
decreases-back l = l.at

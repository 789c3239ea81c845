use Rattle.gpi.proofs.Trees.{Claims}
use Rattle.gpi.proofs.parents.claim.Given as goal

abbrev pub invariant-back : goal.invariant-back
invariant-back l = Claims l.at l.node l.children l.initial.parents l.parents

abbrev pub decreases-back : goal.decreases-back
decreases-back l = l.at

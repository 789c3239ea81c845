-- The names so far.
use Rattle.test_functions.proofs.Copied.{AreCopied}
use Rattle.test_functions.proofs.function.names_between.Given as goal

abbrev pub invariant-loop-at : goal.invariant-loop-at
invariant-loop-at l = AreCopied l.names l.start l.end l.at l.some

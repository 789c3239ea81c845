-- The first of those before.
use Rattle.v_laws.proofs.Least.{CountsTo}
use Rattle.v_laws.proofs.first.first_broken.Given as goal

abbrev pub invariant-loop-fault : goal.invariant-loop-fault
invariant-loop-fault l = CountsTo l.faults l.fault-index l.first

-- What is found in the events before, and in those that are left.
use Rattle.v_flat.specs.Scope.Scope.{means}
use Rattle.v_loop.proofs.WakesLemmas.Faults.{Gathers}
use Rattle.v_loop.proofs.wakes.control.events.Given as goal

abbrev pub invariant-loop-event : goal.invariant-loop-event
invariant-loop-event l = Gathers (means l.scope) l.events l.event-index l.fault l.wakes

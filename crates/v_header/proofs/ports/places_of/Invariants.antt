-- The places of the ports before.
use Rattle.v_header.proofs.Places.{Placed}
use Rattle.v_header.proofs.ports.places_of.Given as goal

abbrev pub invariant-loop-at : goal.invariant-loop-at
invariant-loop-at l = Placed l.list l.at l.places

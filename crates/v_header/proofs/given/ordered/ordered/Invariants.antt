-- What is found in the values behind.
use Rattle.v_flat.specs.Scope.Scope.{means}
use Rattle.v_header.specs.Given.Given.{FindsTheSame}
use Rattle.v_header.proofs.GivenLemmas.Orders.{ordered_behind}
use Rattle.v_header.proofs.given.ordered.ordered.Given as goal

abbrev pub invariant-loop-at : goal.invariant-loop-at
invariant-loop-at l = FindsTheSame (ordered_behind (means l.scope) l.values l.names l.at) l.found

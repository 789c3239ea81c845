-- What is found in the connections behind.
use Rattle.std.proofs.Common.{map, drop}
use Rattle.v_flat.specs.Scope.Scope.{means}
use Rattle.v_syntax.specs.SourceTrees.{view_connection}
use Rattle.v_header.specs.Given.Given.{FindsTheSame}
use Rattle.v_header.specs.Given.Uses.{given_by}
use Rattle.v_header.proofs.given.named.named.Given as goal

abbrev pub invariant-loop-at : goal.invariant-loop-at
invariant-loop-at l = FindsTheSame (given_by (means l.scope) (drop l.at l.is_first.items) (map view_connection (drop l.at l.connections))) l.found

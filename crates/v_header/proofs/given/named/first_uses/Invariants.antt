-- The connections that are left, and the names that were seen.
use Rattle.std.proofs.Common.{◌≡◌, ℕ, List, [], ◌++◌, map, drop}
use Rattle.v_syntax.specs.SourceTrees.{view_connection}
use Rattle.v_header.specs.Names.{texts}
use Rattle.v_header.specs.Given.Uses.{HasNames, first_uses}
use Rattle.v_header.proofs.given.named.first_uses.Given as goal

abbrev pub invariant-loop-place : goal.invariant-loop-place
invariant-loop-place l =
    (seen : List (List ℕ)) × (HasNames seen l.seen × (l.uses.items ++ first_uses (texts l.names) seen (map view_connection (drop l.place l.connections))
    ≡ first_uses (texts l.names) [] (map view_connection l.connections)))

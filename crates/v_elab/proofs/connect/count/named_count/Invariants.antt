-- Those that were counted, those that are left, and the names that were seen.
use Rattle.std.proofs.Common.{ℕ, List, [], map}
use Rattle.v_syntax.specs.SourceTrees.{view_connection}
use Rattle.v_flat.specs.Design.{named_count}
use Rattle.v_elab.proofs.ConnectLemmas.Steps.{HasNames}
use Rattle.v_elab.proofs.ConnectLemmas.Counts.{Counted, named_rest}
use Rattle.v_elab.proofs.connect.count.named_count.Given as goal

abbrev pub invariant-loop-at : goal.invariant-loop-at
invariant-loop-at l =
    (seen : List (List ℕ)) × (HasNames seen l.seen
    × Counted (named_count l.ports [] (map view_connection l.connections)) (named_rest l.connections l.ports seen l.at) l.count l.at)

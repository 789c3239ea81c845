-- Those that were counted, and those that are left.
use Rattle.std.proofs.Common.{map}
use Rattle.v_syntax.specs.ExpressionTrees.{view}
use Rattle.v_flat.specs.Design.{ordered_count}
use Rattle.v_elab.proofs.ConnectLemmas.Counts.{Counted, ordered_rest}
use Rattle.v_elab.proofs.connect.count.ordered_count.Given as goal

abbrev pub invariant-loop-at : goal.invariant-loop-at
invariant-loop-at l = Counted (ordered_count (map view l.values) l.ports) (ordered_rest l.values l.ports l.at) l.count l.at

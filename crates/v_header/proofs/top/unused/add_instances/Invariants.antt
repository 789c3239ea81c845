-- The names that are added, and those of the items that are left.
use Rattle.v_header.proofs.TopLemmas.Instances.{Adding, names_of_items}
use Rattle.v_header.proofs.top.unused.add_instances.Given as goal

abbrev pub invariant-loop-item : goal.invariant-loop-item
invariant-loop-item l = Adding names_of_items l.items l.item-index l.initial.names l.names

-- The scope so far, and the items that are left.
use Rattle.std.proofs.Common.{◌≡◌, drop, map}
use Rattle.v_syntax.specs.SourceTrees.{view_item}
use Rattle.v_flat.specs.Scope.Scope.{means}
use Rattle.v_flat.specs.Headers.{names_in}
use Rattle.v_header.specs.Names.{and_later}
use Rattle.v_header.proofs.names.declare_items.Given as goal

abbrev pub invariant-loop-item : goal.invariant-loop-item
invariant-loop-item l =
    and_later (names_in (map view_item l.items)) (means l.initial.scope) ≡ and_later (names_in (map view_item (drop l.item-index l.items))) (means l.scope)

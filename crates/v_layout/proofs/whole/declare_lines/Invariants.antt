-- What is declared, and the items that are left.
use Rattle.std.proofs.Common.{◌≡◌, drop, map}
use Rattle.v_syntax.specs.SourceTrees.{view_item}
use Rattle.v_flat.specs.Declarations.{declare_lines}
use Rattle.v_layout.specs.Place.{place_in}
use Rattle.v_layout.proofs.whole.declare_lines.Given as goal

abbrev pub invariant-loop-item : goal.invariant-loop-item
invariant-loop-item l =
    declare_lines (place_in l.place) (map view_item (drop l.item-index l.items)) l.declared
    ≡ declare_lines (place_in l.place) (map view_item l.items) l.fn.so_far

-- What was found, and the items that are left.
use Rattle.std.proofs.Common.{◌≡◌, ◌++◌, drop, map}
use Rattle.v_syntax.specs.SourceTrees.{view_item}
use Rattle.v_flat.specs.Headers.{item_parameters}
use Rattle.v_header.specs.Parameters.{parameters_in}
use Rattle.v_header.proofs.parameters.add_items.Given as goal

abbrev pub invariant-loop-item : goal.invariant-loop-item
invariant-loop-item l =
    parameters_in l.initial.found.items ++ item_parameters (map view_item l.items)
    ≡ parameters_in l.found.items ++ item_parameters (map view_item (drop l.item-index l.items))

-- What was found, and the items that are left.
use Rattle.std.proofs.Common.{◌≡◌, ◌++◌, drop, map}
use Rattle.v_syntax.specs.SourceTrees.{view_item}
use Rattle.v_header.specs.Ports.{item_ports, ports_in}
use Rattle.v_header.proofs.ports.item_list.Given as goal

abbrev pub invariant-loop-item : goal.invariant-loop-item
invariant-loop-item l =
    item_ports (map view_item l.items) ≡ ports_in l.found.items ++ item_ports (map view_item (drop l.item-index l.items))

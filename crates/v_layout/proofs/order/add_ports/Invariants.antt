-- The lines so far, and the ports that are left.
use Rattle.std.proofs.Common.{◌≡◌, ◌++◌, drop}
use Rattle.v_flat.specs.Declarations.{port_lines}
use Rattle.v_layout.specs.Order.{lines_in}
use Rattle.v_layout.proofs.order.add_ports.Given as goal

abbrev pub invariant-loop-index : goal.invariant-loop-index
invariant-loop-index l =
    lines_in l.initial.lines.items ++ port_lines l.ports l.declared ≡ lines_in l.lines.items ++ port_lines (drop l.index l.ports) l.declared

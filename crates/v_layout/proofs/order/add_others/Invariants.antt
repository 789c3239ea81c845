-- The lines so far, and the names that are left.
use Rattle.std.proofs.Common.{◌≡◌, ◌++◌, drop, map}
use Rattle.v_flat.specs.Headers.{port_name}
use Rattle.v_flat.specs.Declarations.{other_lines}
use Rattle.v_layout.specs.Order.{lines_in}
use Rattle.v_layout.proofs.order.add_others.Given as goal

abbrev pub invariant-loop-index : goal.invariant-loop-index
invariant-loop-index l =
    lines_in l.initial.lines.items ++ other_lines (map port_name l.ports) l.declared
    ≡ lines_in l.lines.items ++ other_lines (map port_name l.ports) (drop l.index l.declared)

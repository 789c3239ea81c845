-- What was found, and the names that are left.
use Rattle.std.proofs.Common.{◌≡◌, ◌++◌, drop, map}
use Rattle.v_header.specs.Ports.{line_port, ports_in}
use Rattle.v_header.proofs.ports.add_line.Given as goal

abbrev pub invariant-loop-name : goal.invariant-loop-name
invariant-loop-name l =
    ports_in l.initial.found.items ++ map (line_port l.direction) l.names ≡ ports_in l.found.items ++ map (line_port l.direction) (drop l.name-index l.names)

-- What was found, and the names that are left.
use Rattle.std.proofs.Common.{◌≡◌, ◌++◌, drop, map}
use Rattle.v_header.specs.Ports.{known_port, ports_in}
use Rattle.v_header.proofs.ports.named_list.Given as goal

abbrev pub invariant-loop-identifier : goal.invariant-loop-identifier
invariant-loop-identifier l =
    map (known_port l.declared) l.names ≡ ports_in l.found.items ++ map (known_port l.declared) (drop l.identifier-index l.names)

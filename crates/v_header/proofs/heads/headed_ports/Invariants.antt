-- What was found, the ports that are left, and the head before them.
use Rattle.std.proofs.Common.{◌≡◌, ◌++◌, drop, map}
use Rattle.v_syntax.specs.SourceTrees.{view_header_port}
use Rattle.v_flat.specs.Headers.{first_head, headed}
use Rattle.v_header.specs.Heads.{head_in, headed_in}
use Rattle.v_header.proofs.heads.headed_ports.Given as goal

abbrev pub invariant-loop-port : goal.invariant-loop-port
invariant-loop-port l =
    headed first_head (map view_header_port l.ports)
    ≡ headed_in l.found.items ++ headed (head_in l.head) (map view_header_port (drop l.port-index l.ports))

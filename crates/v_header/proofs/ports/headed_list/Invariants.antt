-- What was found, and the ports that are left.
use Rattle.std.proofs.Common.{◌≡◌, ◌++◌, drop, map}
use Rattle.v_flat.specs.Headers.{headed_port}
use Rattle.v_header.specs.Heads.{headed_in}
use Rattle.v_header.specs.Ports.{ports_in}
use Rattle.v_header.proofs.ports.headed_list.Given as goal

abbrev pub invariant-loop-port : goal.invariant-loop-port
invariant-loop-port l =
    map headed_port (headed_in l.headed) ≡ ports_in l.found.items ++ map headed_port (headed_in (drop l.port-index l.headed))

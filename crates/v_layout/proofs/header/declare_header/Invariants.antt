-- What is declared, and the ports that are left.
use Rattle.std.proofs.Common.{◌≡◌, drop}
use Rattle.v_flat.specs.Declarations.{declare_header}
use Rattle.v_header.specs.Heads.{headed_in}
use Rattle.v_layout.specs.Place.{place_in}
use Rattle.v_layout.proofs.header.declare_header.Given as goal

abbrev pub invariant-loop-port : goal.invariant-loop-port
invariant-loop-port l =
    declare_header (place_in l.place) (headed_in (drop l.port-index l.ports)) l.declared ≡ declare_header (place_in l.place) (headed_in l.ports) l.fn.so_far

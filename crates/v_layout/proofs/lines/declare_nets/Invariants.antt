-- What is found, and the nets that are left.
use Rattle.std.proofs.Common.{◌≡◌, drop, map, None, Some}
use Rattle.v_syntax.specs.SourceTrees.{view_net}
use Rattle.v_flat.specs.Scope.Found.{and_then}
use Rattle.v_flat.specs.Declarations.{Wire, declare_all, net_identifier}
use Rattle.v_layout.specs.Place.{place_in}
use Rattle.v_layout.proofs.lines.declare_nets.Given as goal

abbrev pub invariant-loop-net : goal.invariant-loop-net
invariant-loop-net l =
    and_then l.found (declare_all (place_in l.place) None (Some Wire) l.fn.bounds (map net_identifier (map view_net (drop l.net-index l.nets))))
    ≡ declare_all (place_in l.place) None (Some Wire) l.fn.bounds (map net_identifier (map view_net l.nets)) l.fn.so_far

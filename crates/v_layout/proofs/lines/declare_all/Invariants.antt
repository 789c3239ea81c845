-- What is found, and the names that are left.
use Rattle.std.proofs.Common.{◌≡◌, drop, option_map}
use Rattle.v_flat.specs.Scope.Found.{and_then}
use Rattle.v_flat.specs.Declarations.{declare_all}
use Rattle.v_layout.specs.Kept.{sort_in}
use Rattle.v_layout.specs.Place.{place_in}
use Rattle.v_layout.proofs.lines.declare_all.Given as goal

abbrev pub invariant-loop-name : goal.invariant-loop-name
invariant-loop-name l =
    and_then l.found (declare_all (place_in l.place) l.declared.direction (option_map sort_in l.declared.sort) l.declared.bounds (drop l.name-index l.names))
    ≡ declare_all (place_in l.place) l.declared.direction (option_map sort_in l.declared.sort) l.declared.bounds l.names l.fn.so_far

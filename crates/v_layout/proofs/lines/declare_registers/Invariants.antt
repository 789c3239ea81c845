-- What is found, and the registers that are left.
use Rattle.std.proofs.Common.{◌≡◌, drop, map}
use Rattle.v_syntax.specs.SourceTrees.{view_register}
use Rattle.v_flat.specs.Scope.Found.{and_then}
use Rattle.v_flat.specs.Declarations.{declare_registers}
use Rattle.v_layout.specs.Place.{place_in}
use Rattle.v_layout.proofs.lines.declare_registers.Given as goal

abbrev pub invariant-loop-register : goal.invariant-loop-register
invariant-loop-register l =
    and_then l.found (declare_registers (place_in l.place) l.bounds (map view_register (drop l.register-index l.registers)))
    ≡ declare_registers (place_in l.place) l.bounds (map view_register l.registers) l.fn.so_far

-- A means of proof: both bounds of a range, as the definition of ranges takes them together.
use Rattle.std.specs.Prelude.{List}
use Rattle.four_value.specs.declared.Digit.{Digit}
use Rattle.v_flat.specs.declared.scope.meaning.Bounds.{Bounds}
use Rattle.v_flat.specs.Declarations.{bound}

abbrev pub pair_bounds : List Digit × List Digit → Bounds
pair_bounds x = record { left = bound x.0; right = bound x.1 }

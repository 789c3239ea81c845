-- What was found, and the parameters that are left.
use Rattle.std.proofs.Common.{◌≡◌, ◌++◌, drop, map}
use Rattle.v_syntax.specs.SourceTrees.{view_parameter}
use Rattle.v_flat.specs.Headers.{in_line}
use Rattle.v_header.specs.Parameters.{parameters_in, range_in}
use Rattle.v_header.proofs.parameters.add_line.Given as goal

abbrev pub invariant-loop-assignment : goal.invariant-loop-assignment
invariant-loop-assignment l =
    parameters_in l.initial.found.items ++ map (in_line l.kind (range_in l.range)) (map view_parameter l.assignments)
    ≡ parameters_in l.found.items ++ map (in_line l.kind (range_in l.range)) (map view_parameter (drop l.assignment-index l.assignments))

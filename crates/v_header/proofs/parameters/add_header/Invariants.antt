-- What was found, the parameters that are left, and the range before them.
use Rattle.std.proofs.Common.{◌≡◌, ◌++◌, None, drop, map}
use Rattle.v_syntax.specs.SourceTrees.{view_header_parameter}
use Rattle.v_flat.specs.Headers.{header_parameters}
use Rattle.v_header.specs.Parameters.{parameters_in, range_in}
use Rattle.v_header.proofs.parameters.add_header.Given as goal

abbrev pub invariant-loop-parameter : goal.invariant-loop-parameter
invariant-loop-parameter l =
    parameters_in l.initial.found.items ++ header_parameters None (map view_header_parameter l.parameters)
    ≡ parameters_in l.found.items ++ header_parameters (range_in l.range) (map view_header_parameter (drop l.parameter-index l.parameters))

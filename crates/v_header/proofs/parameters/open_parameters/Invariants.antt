-- The names so far, and the parameters that are left.
use Rattle.std.proofs.Common.{◌≡◌, ◌++◌, drop}
use Rattle.v_flat.specs.Headers.{open_parameters}
use Rattle.v_header.specs.Names.{texts}
use Rattle.v_header.specs.Parameters.{parameters_in}
use Rattle.v_header.proofs.parameters.open_parameters.Given as goal

abbrev pub invariant-loop-parameter : goal.invariant-loop-parameter
invariant-loop-parameter l =
    open_parameters (parameters_in l.parameters) ≡ texts l.names.items ++ open_parameters (parameters_in (drop l.parameter-index l.parameters))

-- What is known, and the parameters that are left.
use Rattle.std.proofs.Common.{◌≡◌, [], drop}
use Rattle.v_flat.specs.Scope.Scope.{means}
use Rattle.v_flat.specs.Declarations.{parameters}
use Rattle.v_header.specs.Parameters.{parameters_in}
use Rattle.v_header.specs.Parameter.Constants.{entries_of}
use Rattle.v_header.specs.Parameter.Found.{AreKnown}
use Rattle.v_header.proofs.parameter.parameter_list.parameters.Given as goal

abbrev pub invariant-loop-parameter : goal.invariant-loop-parameter
invariant-loop-parameter l = record {
  rest : parameters (parameters_in (drop l.parameter-index l.declared)) l.given (means l.fn.others) (entries_of l.list.items)
      ≡ parameters (parameters_in l.declared) l.given (means l.fn.others) [];
  known : AreKnown (means l.fn.others) (record { list = l.list; scope = l.scope });
}

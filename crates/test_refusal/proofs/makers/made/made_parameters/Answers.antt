-- A factory above, and its function above.
use Rattle.test_names.specs.Scope.Around.{around_in}
use Rattle.test_refusal.proofs.MakersLemmas.Above.{made, unmade}
use Rattle.test_refusal.proofs.makers.made.made_parameters.Goals as goal

pub returns-in_err-function : goal.returns-in_err-function
returns-in_err-function c = unmade (around_in c.args.scope.now).above c.args.name.now c.function_name.result c.from_residual.result c.function_name.ensures c.in_err-function.was c.from_residual.ensures

pub returns : goal.returns
returns c = made (around_in c.args.scope.now).above c.args.name.now c.function_name.result c.in_ok-function.function _ c.function_name.ensures c.in_ok-function.was c.parameters.ensures

use Rattle.test_names.proofs.DefinitionsLemmas.ByKind.{functions_have_parameters}
use Rattle.test_names.proofs.definitions.laws.functions_have_parameters.Goals as goal

pub returns : goal.returns
returns c = functions_have_parameters

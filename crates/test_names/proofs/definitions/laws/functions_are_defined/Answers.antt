use Rattle.test_names.proofs.DefinitionsLemmas.ByKind.{functions_are_defined}
use Rattle.test_names.proofs.definitions.laws.functions_are_defined.Goals as goal

pub returns : goal.returns
returns c = functions_are_defined

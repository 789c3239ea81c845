use Rattle.test_names.proofs.DefinitionsLemmas.ByKind.{constants_are_defined}
use Rattle.test_names.proofs.definitions.laws.constants_are_defined.Goals as goal

pub returns : goal.returns
returns c = constants_are_defined

use Rattle.test_names.proofs.DefinitionsLemmas.ByKind.{names_are_defined}
use Rattle.test_names.proofs.definitions.laws.names_are_defined.Goals as goal

pub returns : goal.returns
returns c = names_are_defined

use Rattle.test_names.proofs.DefinitionsLemmas.ByKind.{factories_are_defined}
use Rattle.test_names.proofs.definitions.laws.factories_are_defined.Goals as goal

pub returns : goal.returns
returns c = factories_are_defined

use Rattle.test_names.proofs.DefinitionsLemmas.FirstPlaces.{any_by_place}
use Rattle.test_names.proofs.definitions.laws.any_by_place.Goals as goal

pub returns : goal.returns
returns c = any_by_place

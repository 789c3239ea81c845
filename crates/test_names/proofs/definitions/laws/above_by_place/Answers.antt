use Rattle.test_names.proofs.DefinitionsLemmas.FirstPlaces.{above_by_place}
use Rattle.test_names.proofs.definitions.laws.above_by_place.Goals as goal

pub returns : goal.returns
returns c = above_by_place

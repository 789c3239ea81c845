use Rattle.test_names.proofs.DefinitionsLemmas.FirstPlaces.{found_at_place}
use Rattle.test_names.proofs.definitions.laws.found_at_place.Goals as goal

pub returns : goal.returns
returns c = found_at_place

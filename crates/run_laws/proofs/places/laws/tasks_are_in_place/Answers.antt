use Rattle.run_laws.proofs.PlacesLemmas.Places.{reached_in_place}
use Rattle.run_laws.proofs.places.laws.tasks_are_in_place.Goals as goal

pub returns : goal.returns
returns c = reached_in_place

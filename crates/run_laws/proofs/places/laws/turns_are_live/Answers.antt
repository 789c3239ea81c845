use Rattle.run_laws.proofs.PlacesLemmas.Places.{reached_live}
use Rattle.run_laws.proofs.places.laws.turns_are_live.Goals as goal

pub returns : goal.returns
returns c = reached_live

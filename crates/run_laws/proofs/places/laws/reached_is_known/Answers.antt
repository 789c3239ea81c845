use Rattle.run_laws.proofs.PlacesLemmas.Known.{reached_known}
use Rattle.run_laws.proofs.places.laws.reached_is_known.Goals as goal

pub returns : goal.returns
returns c = reached_known

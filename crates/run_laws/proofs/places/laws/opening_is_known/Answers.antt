use Rattle.run_laws.proofs.PlacesLemmas.Known.{start_known}
use Rattle.run_laws.proofs.places.laws.opening_is_known.Goals as goal

pub returns : goal.returns
returns c = start_known

use Rattle.run_laws.proofs.PlacesLemmas.Ended.{endings_stay}
use Rattle.run_laws.proofs.places.laws.endings_stay.Goals as goal

pub returns : goal.returns
returns c = endings_stay

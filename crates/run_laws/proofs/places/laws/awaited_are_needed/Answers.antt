use Rattle.run_laws.proofs.PlacesLemmas.Needed.{needed_awaited}
use Rattle.run_laws.proofs.places.laws.awaited_are_needed.Goals as goal

pub returns : goal.returns
returns c = needed_awaited

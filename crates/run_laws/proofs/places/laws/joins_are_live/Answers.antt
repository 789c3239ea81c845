use Rattle.run_laws.proofs.PlacesLemmas.Joins.{joined_live}
use Rattle.run_laws.proofs.places.laws.joins_are_live.Goals as goal

pub returns : goal.returns
returns c = joined_live

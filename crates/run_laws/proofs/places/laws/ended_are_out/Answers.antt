use Rattle.run_laws.proofs.PlacesLemmas.Places.{reached_out}
use Rattle.run_laws.proofs.places.laws.ended_are_out.Goals as goal

pub returns : goal.returns
returns c = λ setup seed cases run task r. reached_out setup seed cases run r task

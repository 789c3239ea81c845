use Rattle.run_laws.proofs.PlacesLemmas.Unmet.{reached_needs, reached_others}
use Rattle.run_laws.proofs.places.laws.waits_are_unmet.Goals as goal

pub returns : goal.returns
returns c = record { others = reached_others; all = reached_needs }

use Rattle.run_laws.proofs.PlacesLemmas.Known.{reached_wide}
use Rattle.run_laws.proofs.places.laws.signals_keep_their_widths.Goals as goal

pub returns : goal.returns
returns c = reached_wide

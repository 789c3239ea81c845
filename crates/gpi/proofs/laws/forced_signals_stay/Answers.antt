use Rattle.gpi.proofs.Forced.{forced_signals_stay}
use Rattle.gpi.proofs.laws.forced_signals_stay.Goals as goal

pub returns : goal.returns
returns c = forced_signals_stay

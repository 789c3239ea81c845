use Rattle.v_layout.proofs.Stay.{names_stay}
use Rattle.v_layout.proofs.laws.names_stay_signals.Goals as goal

pub returns : goal.returns
returns c = names_stay

use Rattle.v_layout.proofs.Scopes.{names_are_signals}
use Rattle.v_layout.proofs.laws.names_are_signals.Goals as goal

pub returns : goal.returns
returns c = names_are_signals

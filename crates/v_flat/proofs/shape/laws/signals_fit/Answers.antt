use Rattle.v_flat.proofs.ShapeLemmas.Signals.{signals_fit}
use Rattle.v_flat.proofs.shape.laws.signals_fit.Goals as goal

pub returns : goal.returns
returns c = signals_fit

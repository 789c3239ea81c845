use Rattle.v_layout.proofs.Fitting.{declarations_fit}
use Rattle.v_layout.proofs.laws.declarations_fit.Goals as goal

pub returns : goal.returns
returns c = declarations_fit

use Rattle.v_elab.proofs.NamedLemmas.Trees.{expression_names}
use Rattle.v_elab.proofs.named.laws.expressions_name_signals.Goals as goal

pub returns : goal.returns
returns c = expression_names

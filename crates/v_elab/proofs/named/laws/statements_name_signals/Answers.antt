use Rattle.v_elab.proofs.NamedLemmas.Trees.{statement_names}
use Rattle.v_elab.proofs.named.laws.statements_name_signals.Goals as goal

pub returns : goal.returns
returns c = statement_names

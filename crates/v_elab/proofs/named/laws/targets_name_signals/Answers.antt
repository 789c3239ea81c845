use Rattle.v_elab.proofs.NamedLemmas.Trees.{target_names}
use Rattle.v_elab.proofs.named.laws.targets_name_signals.Goals as goal

pub returns : goal.returns
returns c = target_names

use Rattle.v_laws.proofs.Sorts.{processes_keep}
use Rattle.v_laws.proofs.laws.processes_keep_to_their_kind.Goals as goal

pub returns : goal.returns
returns c = processes_keep

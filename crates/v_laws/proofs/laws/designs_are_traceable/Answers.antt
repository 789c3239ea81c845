use Rattle.v_laws.proofs.Traces.{designs_are_traceable}
use Rattle.v_laws.proofs.laws.designs_are_traceable.Goals as goal

pub returns : goal.returns
returns c = designs_are_traceable

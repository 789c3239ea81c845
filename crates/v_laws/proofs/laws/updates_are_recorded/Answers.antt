use Rattle.v_laws.proofs.Recorded.{recorded}
use Rattle.v_laws.proofs.laws.updates_are_recorded.Goals as goal

pub returns : goal.returns
returns c = recorded

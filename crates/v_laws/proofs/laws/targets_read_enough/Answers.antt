use Rattle.v_laws.proofs.Settled.{targets_read_enough}
use Rattle.v_laws.proofs.laws.targets_read_enough.Goals as goal

pub returns : goal.returns
returns c = targets_read_enough

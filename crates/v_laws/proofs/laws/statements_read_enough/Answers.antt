use Rattle.v_laws.proofs.Settled.{statements_read_enough}
use Rattle.v_laws.proofs.laws.statements_read_enough.Goals as goal

pub returns : goal.returns
returns c = statements_read_enough

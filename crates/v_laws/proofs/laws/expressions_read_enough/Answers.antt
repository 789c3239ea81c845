use Rattle.v_laws.proofs.Sufficient.{expressions_read_enough}
use Rattle.v_laws.proofs.laws.expressions_read_enough.Goals as goal

pub returns : goal.returns
returns c = expressions_read_enough

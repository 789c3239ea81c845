use Rattle.v_laws.proofs.Waiting.{assignments_wait_for_enough}
use Rattle.v_laws.proofs.laws.assignments_wait_for_enough.Goals as goal

pub returns : goal.returns
returns c = assignments_wait_for_enough

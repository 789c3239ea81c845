use Rattle.v_laws.proofs.Waiting.{procedures_wait_for_enough}
use Rattle.v_laws.proofs.laws.procedures_wait_for_enough.Goals as goal

pub returns : goal.returns
returns c = procedures_wait_for_enough

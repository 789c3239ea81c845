use Rattle.v_laws.proofs.Awaited.{implicit_controls_wait}
use Rattle.v_laws.proofs.laws.implicit_controls_wait_for_enough.Goals as goal

pub returns : goal.returns
returns c = implicit_controls_wait

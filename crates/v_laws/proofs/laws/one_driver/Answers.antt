use Rattle.v_laws.proofs.Sorts.{one_driver}
use Rattle.v_laws.proofs.laws.one_driver.Goals as goal

pub returns : goal.returns
returns c = one_driver

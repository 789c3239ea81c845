use Rattle.v_laws.proofs.Counted.{joints_are_counted}
use Rattle.v_laws.proofs.laws.joints_are_counted.Goals as goal

pub returns : goal.returns
returns c = joints_are_counted

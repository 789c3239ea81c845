use Rattle.gpi.proofs.Forced.{released_nets_show}
use Rattle.gpi.proofs.laws.released_nets_show.Goals as goal

pub returns : goal.returns
returns c = released_nets_show

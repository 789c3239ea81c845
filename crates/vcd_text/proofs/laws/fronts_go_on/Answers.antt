use Rattle.vcd_text.proofs.GoesOn.{fronts_go_on}
use Rattle.vcd_text.proofs.laws.fronts_go_on.Goals as goal

pub returns : goal.returns
returns c = fronts_go_on

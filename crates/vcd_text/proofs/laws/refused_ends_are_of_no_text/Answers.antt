use Rattle.vcd_text.proofs.Keeps.{no_text_ends}
use Rattle.vcd_text.proofs.laws.refused_ends_are_of_no_text.Goals as goal

pub returns : goal.returns
returns c = no_text_ends

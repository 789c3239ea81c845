use Rattle.vcd_text.proofs.Keeps.{no_text_goes_on}
use Rattle.vcd_text.proofs.laws.refused_lines_are_in_no_text.Goals as goal

pub returns : goal.returns
returns c = no_text_goes_on

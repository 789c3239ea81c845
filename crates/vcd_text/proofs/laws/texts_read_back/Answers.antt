use Rattle.vcd_text.proofs.Keeps.{reads_back}
use Rattle.vcd_text.proofs.laws.texts_read_back.Goals as goal

pub returns : goal.returns
returns c = reads_back

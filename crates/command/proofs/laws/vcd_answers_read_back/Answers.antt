use Rattle.command.proofs.VcdReads.{vcd_answers_read_back}
use Rattle.command.proofs.laws.vcd_answers_read_back.Goals as goal

pub returns : goal.returns
returns c = vcd_answers_read_back

use Rattle.vcd_text.proofs.Written.{lines_become_changes}
use Rattle.vcd_text.proofs.laws.traced_lines_become_changes.Goals as goal

pub returns : goal.returns
returns c = lines_become_changes

use Rattle.vcd_text.proofs.ToldLaws.{no_parts_told}
use Rattle.vcd_text.proofs.sink.change_in.Goals as goal

pub returns-in-Ok-None : goal.returns-in-Ok-None
returns-in-Ok-None c = no_parts_told c.args.signals.now.flat.now c.args.line.now (rw c.in-Ok-None.field-0-is at c.in-Ok-None.ensures)

pub returns-in-Ok-Some : goal.returns-in-Ok-Some
returns-in-Ok-Some c = c.change_by.ensures c.args.line.now (rw c.in-Ok-Some.field-0-is at c.in-Ok-Some.ensures)

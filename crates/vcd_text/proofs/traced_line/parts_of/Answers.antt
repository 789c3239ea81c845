use Rattle.vcd_text.proofs.SplitLaws.{no_time}
use Rattle.vcd_text.proofs.traced_line.parts_of.Goals as goal

pub returns-in-Ok-None : goal.returns-in-Ok-None
returns-in-Ok-None c =
    no_time c.args.line.now c.in-Some.split.time.now c.in-Some.split.path.now c.in-Some.split.digits.now c.in-Some.ensures
    (rw c.in-Ok-None.field-0-is at c.in-Ok-None.ensures)

use Rattle.std.proofs.Common.{rules}
use Rattle.vcd_text.proofs.FormLaws.{width_said}
use Rattle.vcd_text.proofs.forms.width_of.Goals as goal

pub returns-in-Ok-Some : goal.returns-in-Ok-Some
returns-in-Ok-Some c =
    width_said c.args.text.now c.in-Ok-Some.number (rw c.in-Ok-Some.field-0-is at c.in-Ok-Some.ensures) (search rules) c.as_width.result c.as_width.ensures

use Rattle.vcd_text.proofs.FormLaws.{no_var_start, no_var_wide}
use Rattle.vcd_text.proofs.forms.var_by.Goals as goal

pub returns-in-None : goal.returns-in-None
returns-in-None c =
    λ line cut. no_var_start line c.args.texts.kind.now c.args.texts.width.now c.args.texts.code.now c.args.texts.rest.now cut c.in-None.ensures

pub returns-in-Ok-None : goal.returns-in-Ok-None
returns-in-Ok-None c =
    λ line cut. no_var_wide line c.args.texts.kind.now c.args.texts.width.now c.args.texts.code.now c.args.texts.rest.now cut (rw c.in-Ok-None.field-0-is at c.in-Ok-None.ensures)

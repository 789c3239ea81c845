use Rattle.vcd_text.proofs.FormLaws.{no_var_name, no_var_number, var_made}
use Rattle.vcd_text.proofs.forms.var_at.Goals as goal

pub returns-in-Ok-None : goal.returns-in-Ok-None
returns-in-Ok-None c =
    λ line cut. no_var_number line c.args.texts.kind.now c.args.texts.width.now c.args.texts.code.now c.args.texts.rest.now cut (rw c.in-Ok-None.field-0-is at c.in-Ok-None.ensures)

pub returns-in-Ok-None-name_before : goal.returns-in-Ok-None-name_before
returns-in-Ok-None-name_before c =
    λ line cut. no_var_name line c.args.texts.kind.now c.args.texts.width.now c.args.texts.code.now c.args.texts.rest.now cut c.args.width c.requires.width.1 c.requires.width.2 (rw c.in-Ok-None-name_before.field-0-is at c.in-Ok-None-name_before.ensures)

pub returns-in-Ok-Some-name_before : goal.returns-in-Ok-Some-name_before
returns-in-Ok-Some-name_before c =
    λ line cut. var_made line c.args.texts.kind.now c.args.texts.width.now c.args.texts.code.now c.args.texts.rest.now cut c.in-Ok-Some.number c.in-Ok-Some-name_before.name.now c.args.start c.args.width c.requires.start c.requires.width
    (rw c.in-Ok-Some.field-0-is at c.in-Ok-Some.ensures) (rw c.in-Ok-Some-name_before.field-0-is at c.in-Ok-Some-name_before.ensures)

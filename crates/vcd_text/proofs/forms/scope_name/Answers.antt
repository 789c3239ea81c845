use Rattle.vcd_text.proofs.FormLaws.{no_scope_front, no_scope_name, scope_cut}
use Rattle.vcd_text.proofs.forms.scope_name.Goals as goal

pub returns-in-None : goal.returns-in-None
returns-in-None c =
    no_scope_front c.args.line.now c.in-None.ensures

pub returns-in-None-name_of : goal.returns-in-None-name_of
returns-in-None-name_of c =
    no_scope_name c.args.line.now c.in-Some.rest.now c.in-Some.ensures c.in-None-name_of.ensures

pub returns-in-Some-name_of : goal.returns-in-Some-name_of
returns-in-Some-name_of c =
    record { spelled = scope_cut c.args.line.now c.in-Some.rest.now c.in-Some-name_of.name.now c.in-Some.ensures c.in-Some-name_of.ensures.1; named = c.in-Some-name_of.ensures.0 }

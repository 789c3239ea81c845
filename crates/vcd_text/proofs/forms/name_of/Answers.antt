use Rattle.vcd_text.proofs.FormLaws.{no_name}
use Rattle.vcd_text.proofs.forms.name_of.Goals as goal

pub returns-else-is_name : goal.returns-else-is_name
returns-else-is_name c =
    no_name c.args.text.now c.in-Some.name.now c.args.end.now c.is_name.result c.in-Some.ensures c.is_name.ensures c.if-is_name.false

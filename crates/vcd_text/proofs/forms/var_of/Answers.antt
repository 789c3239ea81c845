use Rattle.vcd_text.proofs.FormLaws.{no_var_cut}
use Rattle.vcd_text.proofs.forms.var_of.Goals as goal

pub returns-in-None : goal.returns-in-None
returns-in-None c =
    no_var_cut c.args.line.now c.in-None.ensures

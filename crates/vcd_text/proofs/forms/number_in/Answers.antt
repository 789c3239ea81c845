use Rattle.vcd_text.proofs.FormLaws.{no_code}
use Rattle.vcd_text.proofs.forms.number_in.Goals as goal

pub returns-then-text-gt3 : goal.returns-then-text-gt3
returns-then-text-gt3 c =
    no_code c.args.text.now c.if-text-gt3.true

use Rattle.vcd_text.proofs.FormLaws.{no_vector_digits}
use Rattle.vcd_text.proofs.forms.vector_of.Goals as goal

pub returns-else-is_vector : goal.returns-else-is_vector
returns-else-is_vector c =
    no_vector_digits c.args.text.now c.in_ok-digits.digits.now c.in_ok-digits.code.now c.is_vector.result c.in_ok-digits.ensures c.is_vector.ensures c.if-is_vector.false

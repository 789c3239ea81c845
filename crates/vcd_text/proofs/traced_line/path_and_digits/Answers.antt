use Rattle.vcd_text.proofs.SplitLaws.{not_last}
use Rattle.vcd_text.proofs.traced_line.path_and_digits.Goals as goal

pub returns-else-are_digits : goal.returns-else-are_digits
returns-else-are_digits c =
    not_last c.args.text.now c.in-Some.path.now c.in-Some.digits.now c.are_digits.result c.in-Some.ensures c.are_digits.ensures c.if-are_digits.false

use Rattle.std.proofs.Common.{take}
use Rattle.design_tests.proofs.ElaborationLemmas.DigitLaws.{first_digits, vector_short}
use Rattle.design_tests.proofs.elaboration.digits.vector.Goals as goal

pub returns : goal.returns
returns c =
    vector_short c.args.text.now (take c.min.result c.args.text.now) _ c.short_vector.ensures
    (first_digits c.args.text.now c.min.result c.min.ensures)

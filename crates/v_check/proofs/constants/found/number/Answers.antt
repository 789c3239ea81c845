-- What is found in a number.
use Rattle.v_check.proofs.ConstantsLemmas.Operators.{number_checked}
use Rattle.v_check.proofs.constants.found.number.Goals as goal

pub returns : goal.returns
returns c = λ s p. number_checked s p c.args.value c.width.result c.width.ensures.is c.width.ensures.low c.width.ensures.high

use Rattle.v_check.proofs.ConstantsLemmas.Unsignalled.{one_meaning}
use Rattle.v_check.proofs.constants.laws.constants_have_one_value.Goals as goal

pub returns : goal.returns
returns c = one_meaning

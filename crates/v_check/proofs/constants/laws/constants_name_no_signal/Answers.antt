use Rattle.v_check.proofs.ConstantsLemmas.Unsignalled.{names_none}
use Rattle.v_check.proofs.constants.laws.constants_name_no_signal.Goals as goal

pub returns : goal.returns
returns c = names_none

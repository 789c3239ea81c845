use Rattle.vcd_text.proofs.OneList.{one_list}
use Rattle.vcd_text.proofs.laws.texts_tell_changes.Goals as goal

pub returns : goal.returns
returns c = one_list

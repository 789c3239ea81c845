use Rattle.kernel_base.proofs.Same.{same_is}
use Rattle.kernel_base.proofs.digits.are_same.Goals as goal

pub returns : goal.returns
returns c = same_is _ _ _ c.is_same.ensures

use Rattle.four_value.proofs.Parts.{resize_is}
use Rattle.four_value.proofs.vector.Bits.resize.Goals as goal

pub returns : goal.returns
returns c = rw c.low_mask-mask.ensures (resize_is _ _ _ c.args.width _ c.self.view_is c.self.invariant.value_fits c.self.invariant.unknown_fits)

use Rattle.four_value.proofs.Parts.{shift_down_is}
use Rattle.four_value.proofs.vector.Bits.shifted_down.Goals as goal

pub returns : goal.returns
returns c = shift_down_is _ _ _ c.args.n _ c.self.view_is c.self.invariant.value_fits c.self.invariant.unknown_fits

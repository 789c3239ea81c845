use Rattle.std.proofs.Common.{◌<◌, arith}
use Rattle.four_value.proofs.Parts.{shift_up_is, long_view}
use Rattle.four_value.proofs.vector.Bits.shifted_up.Goals as goal

pub returns : goal.returns
returns c =
    let long = long_view _ _ _ _ c.self.view_is in
    let small : c.args.n < c.self.inside.width = omega arith in
    rw c.low_mask-mask.ensures (shift_up_is _ _ _ c.args.n _ c.self.view_is c.self.invariant.high small)

use Rattle.std.proofs.Common.{◌+◌, ◌≤◌, arith}
use Rattle.four_value.proofs.Parts.{slice_is, long_view}
use Rattle.four_value.specs.Back.{digits_length}
use Rattle.four_value.proofs.vector.Bits.slice.Goals as goal

pub returns-clause-is : goal.returns-clause-is
returns-clause-is c =
    let long = long_view _ _ _ _ c.self.view_is in
    let inside : c.args.low + c.args.width ≤ c.self.inside.width = omega arith in
    rw c.low_mask-mask.ensures (slice_is _ _ _ c.args.low c.args.width _ c.self.view_is inside)

pub returns-clause-wide : goal.returns-clause-wide
returns-clause-wide c = digits_length _ _ _

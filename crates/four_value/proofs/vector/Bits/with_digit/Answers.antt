use Rattle.std.proofs.Common.{◌<◌, ◌∙◌, arith}
use Rattle.four_value.proofs.Parts.{set_digit_is, long_view}
use Rattle.four_value.proofs.vector.Bits.with_digit.Goals as goal

pub returns : goal.returns
returns c =
    let long = long_view _ _ _ _ c.self.view_is in
    let inside : c.args.i < c.self.inside.width = omega arith in
    set_digit_is _ _ _ _ _ c.args.i _ c.args.d c.self.view_is c.self.invariant.high inside (c.with_bit.ensures.at ∙ c.value_bit.ensures) (c.with_bit-2.ensures.at ∙ c.unknown_bit.ensures) c.with_bit.ensures.others c.with_bit-2.ensures.others

pub invariant_of-result : goal.invariant_of-result
invariant_of-result c =
    let long = long_view _ _ _ _ c.self.view_is in
    let inside : c.args.i < c.self.inside.width = omega arith in
    let planes = c.self.invariant in
    record {
      low = planes.low;
      high = planes.high;
      value_fits = c.with_bit.ensures.fits c.self.inside.width planes.high inside planes.value_fits;
      unknown_fits = c.with_bit-2.ensures.fits c.self.inside.width planes.high inside planes.unknown_fits;
    }

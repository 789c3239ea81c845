use Rattle.std.proofs.Common.{◌+◌, ◌≤◌, ◌∙◌, arith}
use Rattle.four_value.specs.Back.{digits_length}
use Rattle.four_value.proofs.Parts.{concat_is, long_view, joined_below}
use Rattle.four_value.proofs.vector.Bits.concat.Goals as goal

pub returns-clause-is : goal.returns-clause-is
returns-clause-is c =
    let high_width = long_view _ _ _ _ c.self.view_is in
    let low_width = long_view _ _ _ _ c.low.view_is in
    let fits : c.self.inside.width + c.low.inside.width ≤ 128 = omega arith in
    let high = c.self.invariant in
    let low = c.low.invariant in
    concat_is _ _ _ _ _ _ _ _ c.self.view_is c.low.view_is high.value_fits high.unknown_fits low.value_fits low.unknown_fits fits

pub returns-clause-wide : goal.returns-clause-wide
returns-clause-wide c =
    let high_width = long_view _ _ _ _ c.self.view_is in
    let low_width = long_view _ _ _ _ c.low.view_is in
    digits_length _ _ _ ∙ omega arith

pub invariant_of-result : goal.invariant_of-result
invariant_of-result c =
    let high_width = long_view _ _ _ _ c.self.view_is in
    let low_width = long_view _ _ _ _ c.low.view_is in
    let fits : c.self.inside.width + c.low.inside.width ≤ 128 = omega arith in
    record {
      low = omega arith;
      high = fits;
      value_fits = joined_below _ _ _ _ c.self.invariant.value_fits c.low.invariant.value_fits fits;
      unknown_fits = joined_below _ _ _ _ c.self.invariant.unknown_fits c.low.invariant.unknown_fits fits;
    }

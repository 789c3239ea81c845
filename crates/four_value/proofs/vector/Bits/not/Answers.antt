use Rattle.std.proofs.Common.{◌^◌, ◌<◌, arith, rules}
use Rattle.std.proofs.lemmas.Nat.{pow_pos}
use Rattle.four_value.proofs.Tables.{unary_from, not_table, plane_bounds}
use Rattle.four_value.specs.Vector.{not_digit}
use Rattle.std.proofs.Common.{sym, ◌∙◌}
use Rattle.four_value.specs.Back.{digits_length}
use Rattle.four_value.proofs.Parts.{long_view}
use Rattle.four_value.proofs.vector.Bits.not.Goals as goal

pub returns-clause-is : goal.returns-clause-is
returns-clause-is c = rw c.low_mask.ensures (unary_from not_digit _ _ _ _ _ _ c.self.view_is (not_table _ _ _))

pub invariant_of-result : goal.invariant_of-result
invariant_of-result c =
    let mask : c.low_mask.result < 2 ^ c.self.inside.width = omega (arith, pow_pos c.self.inside.width) in
    search (rules, plane_bounds)

pub returns-clause-wide : goal.returns-clause-wide
returns-clause-wide c = digits_length _ _ _ ∙ sym (long_view _ _ _ _ c.self.view_is)

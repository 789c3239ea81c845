use Rattle.std.proofs.Common.{rules}
use Rattle.four_value.proofs.Tables.{binary_from, merge_table, same_width, below_at, plane_bounds}
use Rattle.four_value.specs.Vector.{merge_digit}
use Rattle.four_value.proofs.vector.Bits.merge.Goals as goal

pub returns : goal.returns
returns c = binary_from merge_digit _ _ _ _ _ _ _ _ _ _ c.self.view_is c.other.view_is c.requires (merge_table _ _ _ _)

pub invariant_of-result : goal.invariant_of-result
invariant_of-result c =
    let e = same_width _ _ _ _ _ _ _ _ c.self.view_is c.other.view_is c.requires in
    let k = below_at _ _ _ e c.other.invariant.value_fits in
    let l = below_at _ _ _ e c.other.invariant.unknown_fits in
    search (rules, plane_bounds)

use Rattle.four_value.proofs.Reductions.{reduce_and_zero, reduce_and_x, reduce_and_one}
use Rattle.four_value.proofs.vector.Bits.reduce_and.Goals as goal

pub returns-then-zeros-gt0 : goal.returns-then-zeros-gt0
returns-then-zeros-gt0 c = reduce_and_zero _ _ _ _ _ c.self.view_is c.self.invariant.value_fits c.self.invariant.unknown_fits c.low_mask.ensures c.if-zeros-gt0.true

pub returns-then-self-gt0 : goal.returns-then-self-gt0
returns-then-self-gt0 c =
    reduce_and_x _ _ _ _ _ c.self.view_is c.self.invariant.value_fits c.self.invariant.unknown_fits c.low_mask.ensures c.if-zeros-gt0.false c.if-self-gt0.true

pub returns-else-self-gt0 : goal.returns-else-self-gt0
returns-else-self-gt0 c =
    reduce_and_one _ _ _ _ _ c.self.view_is c.self.invariant.value_fits c.self.invariant.unknown_fits c.low_mask.ensures c.if-zeros-gt0.false c.if-self-gt0.false

use Rattle.four_value.proofs.Reductions.{reduce_or_one, reduce_or_x, reduce_or_zero}
use Rattle.four_value.proofs.vector.Bits.reduce_or.Goals as goal

pub returns-then-ones-gt0 : goal.returns-then-ones-gt0
returns-then-ones-gt0 c = reduce_or_one _ _ _ _ c.self.view_is c.self.invariant.value_fits c.self.invariant.unknown_fits c.if-ones-gt0.true

pub returns-then-self-gt0 : goal.returns-then-self-gt0
returns-then-self-gt0 c = reduce_or_x _ _ _ _ c.self.view_is c.self.invariant.value_fits c.self.invariant.unknown_fits c.if-ones-gt0.false c.if-self-gt0.true

pub returns-else-self-gt0 : goal.returns-else-self-gt0
returns-else-self-gt0 c = reduce_or_zero _ _ _ _ c.self.view_is c.self.invariant.value_fits c.self.invariant.unknown_fits c.if-ones-gt0.false c.if-self-gt0.false

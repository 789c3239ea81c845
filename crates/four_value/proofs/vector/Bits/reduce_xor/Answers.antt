use Rattle.four_value.proofs.Reductions.{reduce_xor_x, reduce_xor_even, reduce_xor_odd}
use Rattle.four_value.proofs.vector.Bits.reduce_xor.Goals as goal

pub returns-then-self-gt0 : goal.returns-then-self-gt0
returns-then-self-gt0 c = reduce_xor_x _ _ _ _ c.self.view_is c.self.invariant.unknown_fits c.if-self-gt0.true

pub returns-then-self-eq0 : goal.returns-then-self-eq0
returns-then-self-eq0 c = reduce_xor_even _ _ _ _ c.self.view_is c.self.invariant.value_fits c.if-self-gt0.false c.if-self-eq0.true

pub returns-else-self-eq0 : goal.returns-else-self-eq0
returns-else-self-eq0 c = reduce_xor_odd _ _ _ _ c.self.view_is c.self.invariant.value_fits c.if-self-gt0.false c.if-self-eq0.false

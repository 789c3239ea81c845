use Rattle.std.proofs.Common.{refl}
use Rattle.std.specs.Int.{w128}
use Rattle.std.proofs.lemmas.Nat.Bits.{bit_at_set_same, bit_at_set_other, bit_at_clear_same, bit_at_clear_other}
use Rattle.four_value.proofs.Parts.{set_below}
use Rattle.four_value.proofs.Tables.{and_below}
use Rattle.four_value.proofs.vector.with_bit.Goals as goal

pub returns-then-on : goal.returns-then-on
returns-then-on c = record {
  at = rw (bit_at_set_same w128 c.args.plane c.args.i c.requires, c.if-on.true) refl;
  others = λ j h t. bit_at_set_other w128 c.args.plane c.args.i c.requires j t;
  fits = λ w s h k. set_below w c.args.plane c.args.i s h k;
}

pub returns-else-on : goal.returns-else-on
returns-else-on c = record {
  at = rw (bit_at_clear_same w128 c.args.plane c.args.i c.requires, c.if-on.false) refl;
  others = λ j h t. bit_at_clear_other w128 c.args.plane c.args.i c.requires j h t;
  fits = λ w s h k. and_below w c.args.plane _ k;
}

use Rattle.std.proofs.lemmas.Nat.{and_mask}
use Rattle.four_value.proofs.Numbers.{digits_mod}
use Rattle.four_value.proofs.vector.Bits.from_number.Goals as goal

pub returns : goal.returns
returns c = rw (c.low_mask.ensures, and_mask c.args.n c.args.width) (digits_mod c.args.width c.args.n)

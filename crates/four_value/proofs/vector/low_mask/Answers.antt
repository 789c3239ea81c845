use Rattle.std.proofs.Common.{◌≡◌, ℕ, ◌-◌, ◌^◌, arith, ◌∙◌, ap}
use Rattle.std.proofs.lemmas.Nat.Bits.{ones_shr}
use Rattle.four_value.proofs.vector.low_mask.Goals as goal

pub returns : goal.returns
returns c =
    let e : 128 - (128 - c.args.width) ≡ c.args.width = omega arith in
    ones_shr 128 (128 - c.args.width) (omega arith) ∙ ap (λ (n : ℕ). 2 ^ n - 1) e

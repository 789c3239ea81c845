-- A word has 32 bits.
use Rattle.std.proofs.Common.{ℕ, ◌%◌, ◌^◌, ◌<◌, arith}
use Rattle.std.specs.Int.{w32, rotate_right}
use Rattle.std.proofs.lemmas.Nat.{or_lt, mod_below, shr_le, pow_pos}
use Rattle.run_view.specs.RandomStream.Generator.{word}

rotated_small : (n k : ℕ) → n < 2 ^ 32 → rotate_right w32 n k < 2 ^ 32
rotated_small n k h = or_lt 32 _ _ (omega (arith, shr_le n (k % 32))) (mod_below _ (2 ^ 32) (pow_pos 32))

pub word_small : (state : ℕ) → word state < 2 ^ 32
word_small state = rotated_small _ _ (mod_below _ (2 ^ 32) (pow_pos 32))

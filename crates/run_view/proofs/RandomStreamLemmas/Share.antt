-- A word gives a place within the range.
use Rattle.std.proofs.Common.{ℕ, ◌*◌, ◌/◌, ◌^◌, ◌<◌, ◌≤◌, arith}
use Rattle.std.proofs.Math.Nat.{mul_comm, mul-lt-mul_of_pos_left}
use Rattle.std.proofs.lemmas.Nat.{div_below, pow_pos}

pub share_below : (word span : ℕ) → word < 2 ^ 32 → 1 ≤ span → word * span / 2 ^ 32 < span
share_below word span h p =
    div_below (word * span) (2 ^ 32) span (pow_pos 32) (rw (mul_comm word span) (mul-lt-mul_of_pos_left h (omega arith)))

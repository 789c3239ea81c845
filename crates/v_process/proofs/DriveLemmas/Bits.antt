-- The bits of a mask.
use Rattle.std.proofs.Common.{◌≡◌, ℕ, ◌+◌, ◌-◌, ◌*◌, ◌/◌, ◌%◌, ◌^◌, ◌≤◌, ◌&&◌, Bool, true, false, nat_le, nat_lt, refl, ap, ◌∙◌, arith}
use Rattle.std.proofs.lemmas.Bool.Decides.{nat_tests}
use Rattle.std.proofs.lemmas.Nat.{pow_pos, shl_whole}
use Rattle.std.proofs.lemmas.Nat.Bits.{bit_at-zero, bit_at_cat_low, bit_at_cat_high, bit_at_ones, bit_at_ones_above, ones_shr}
use Rattle.std.specs.Int.{bit_at, from_bool}
use Rattle.v_flat.specs.Targets.{Drive}
use Rattle.v_process.specs.Drive.Masks.{mask}

-- digit i is one of them
abbrev pub covers : Drive → ℕ → Bool
covers d i = nat_le d.low i && nat_lt i (d.low + d.count)

mask_bit_by : (d : Drive) (i : ℕ) (x y : Bool) → nat_le d.low i ≡ x → nat_lt i (d.low + d.count) ≡ y → bit_at (mask d + 0) i ≡ from_bool (x && y)
mask_bit_by d i false y p q = bit_at_cat_low (2 ^ d.count - 1) d.low 0 i (grind (arith, nat_tests)) ∙ bit_at-zero i
mask_bit_by d i true true p q =
    bit_at_cat_high (2 ^ d.count - 1) d.low 0 i (pow_pos d.low) (grind (arith, nat_tests)) ∙ bit_at_ones d.count (i - d.low) (grind (arith, nat_tests))
mask_bit_by d i true false p q =
    bit_at_cat_high (2 ^ d.count - 1) d.low 0 i (pow_pos d.low) (grind (arith, nat_tests)) ∙ bit_at_ones_above d.count (i - d.low) (grind (arith, nat_tests))

pub mask_bit : (d : Drive) (i : ℕ) → bit_at (mask d) i ≡ from_bool (covers d i)
mask_bit d i = ap (λ (n : ℕ). bit_at n i) (let e : mask d ≡ mask d + 0 = omega arith in e)
    ∙ mask_bit_by d i (nat_le d.low i) (nat_lt i (d.low + d.count)) refl refl

-- what the code computes
pub mask_shifted : (low count : ℕ) → 1 ≤ count → low + count ≤ 128
    → ((2 ^ 128 - 1) / 2 ^ (128 - count) * 2 ^ low) % 2 ^ 128 ≡ (2 ^ count - 1) * 2 ^ low
mask_shifted low count some fits =
    ap (λ (n : ℕ). (n * 2 ^ low) % 2 ^ 128) (ones_shr 128 (128 - count) (omega arith) ∙ ap (λ (n : ℕ). 2 ^ n - 1) (let e : 128 - (128 - count) ≡ count = omega (arith, fits) in e))
    ∙ shl_whole (2 ^ count - 1) count low 128 (let p = pow_pos count in omega (arith, p)) (omega (arith, fits))

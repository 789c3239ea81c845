-- Numbers in so many digits.
use Rattle.std.proofs.Common.{◌≡◌, ℕ, zero, suc, ◌+◌, ◌-◌, ◌^◌, ◌<◌, ◌≤◌, true, false, Ok, Err, refl, ap, sym, ◌∙◌, arith}
use Rattle.std.specs.Prelude.{ℤ, pos, neg_ℤ, int_le, unsigned_abs, ◌/◌, ◌%◌, ◌&&◌, Bool, List, length, if◌then◌else◌}
use Rattle.std.specs.Int.{int_rem_euclid}
use Rattle.std.proofs.Math.Nat.{pow-suc, mod-eq_of_lt}
use Rattle.std.proofs.Math.Pow.{pow_mono}
use Rattle.std.proofs.lemmas.Nat.{pow_pos}
use Rattle.std.proofs.lemmas.Int.{ints}
use Rattle.four_value.specs.Vector.{vector}
use Rattle.four_value.specs.declared.Digit.{Digit}
use Rattle.four_value.proofs.Numbers.{length_vector}
use Rattle.py_value.specs.Answer.{Answer}
use Rattle.py_syntax.specs.declared.fault_kind.FaultKind.TheVariants.{OverflowError}
use Rattle.run_view.specs.SignalPort.Written.{fits_width, number_bits}

double : (w : ℕ) → 1 ≤ w → 2 ^ w ≡ 2 ^ (w - 1) + 2 ^ (w - 1)
double zero h = absurd (omega arith)
double (suc v) h = let e : suc v - 1 ≡ v = omega arith in let p = pow-suc 2 v in rw e (omega (arith, p))

-- the tests, by the half and the whole
inside : (h p n : ℕ) → p ≡ h + h → n / 2 < h → (int_le (neg_ℤ (pos h)) (pos n) && int_le (pos n) (pos (p - 1))) ≡ true
inside h p n e k = grind (arith, ints)

outside : (h p n : ℕ) → 1 ≤ h → p ≡ h + h → h ≤ n / 2 → (int_le (neg_ℤ (pos h)) (pos n) && int_le (pos n) (pos (p - 1))) ≡ false
outside h p n s e k = grind (arith, ints)

above : (h p n : ℕ) → 1 ≤ n → n ≤ h → (int_le (neg_ℤ (pos h)) (neg_ℤ (pos n)) && int_le (neg_ℤ (pos n)) (pos (p - 1))) ≡ true
above h p n s k = grind (arith, ints)

below : (h p n : ℕ) → h < n → (int_le (neg_ℤ (pos h)) (neg_ℤ (pos n)) && int_le (neg_ℤ (pos n)) (pos (p - 1))) ≡ false
below h p n k = grind (arith, ints)

small : (n p : ℕ) → n < p → n % p ≡ n
small n p h = mod-eq_of_lt h

-- a negative number modulo p
turned : (p n : ℕ) → 1 ≤ n → n < p → unsigned_abs (int_rem_euclid (neg_ℤ (pos n)) (pos p)) ≡ p - n
turned p zero s h = absurd (omega arith)
turned p (suc m) s h = let e = small m p (omega arith) in rw e (omega arith)

pub natural_fits : (w n : ℕ) → 1 ≤ w → n / 2 < 2 ^ (w - 1) → Ok (vector w n) ≡ number_bits w (pos n)
natural_fits w n h k =
    let e = double w h in
    let l : n < 2 ^ w = omega (arith, e, k) in
    rw (inside (2 ^ (w - 1)) (2 ^ w) n e k) (ap (λ (m : ℕ). Ok (vector w m)) (sym (small n (2 ^ w) l)))

pub natural_far : (w n : ℕ) → 1 ≤ w → 2 ^ (w - 1) ≤ n / 2 → Err OverflowError ≡ number_bits w (pos n)
natural_far w n h k = rw (outside (2 ^ (w - 1)) (2 ^ w) n (pow_pos (w - 1)) (double w h) k) refl

pub ruleset naturals = (natural_fits, natural_far)

pub negative_fits : (w n : ℕ) → 1 ≤ w → 1 ≤ n → n ≤ 2 ^ (w - 1) → Ok (vector w (2 ^ (w - 1) + (2 ^ (w - 1) - n))) ≡ number_bits w (neg_ℤ (pos n))
negative_fits w n h s k =
    let e = double w h in
    let l : n < 2 ^ w = omega (arith, e, k, s) in
    let m : 2 ^ (w - 1) + (2 ^ (w - 1) - n) ≡ 2 ^ w - n = omega (arith, e, k) in
    rw (above (2 ^ (w - 1)) (2 ^ w) n s k) (ap (λ (m : ℕ). Ok (vector w m)) (m ∙ sym (turned (2 ^ w) n s l)))

pub negative_far : (w n : ℕ) → 2 ^ (w - 1) < n → Err OverflowError ≡ number_bits w (neg_ℤ (pos n))
negative_far w n k = rw (below (2 ^ (w - 1)) (2 ^ w) n k) refl

pub ruleset negatives = (negative_fits, negative_far)

pub half_high : (w : ℕ) → w ≤ 128 → 2 ^ (w - 1) ≤ 2 ^ 127
half_high w h = pow_mono {i = w - 1} {j = 127} (omega arith)

-- a number has as many digits as the signal
pub number_width : (w : ℕ) (z : ℤ) (bits : List Digit) → number_bits w z ≡ Ok bits → length bits ≡ w
number_width w z bits h = decided (fits_width w z) (vector w (unsigned_abs (int_rem_euclid z (pos (2 ^ w))))) (length_vector w (unsigned_abs (int_rem_euclid z (pos (2 ^ w))))) h
  where
    decided : (b : Bool) (ds : List Digit) → length ds ≡ w → (let r : Answer (List Digit) = if b then Ok ds else Err OverflowError in r ≡ Ok bits) → length bits ≡ w
    decided true ds l e = let s : ds ≡ bits = cc in ap length (sym s) ∙ l
    decided false ds l e = cc

-- Femtoseconds in steps.
use Rattle.std.proofs.Common.{◌≡◌, ◌*◌, ◌^◌, ◌<◌, ◌≤◌, ℕ, zero, suc, Bool, true, false, nat_le, Option, Some, None, if◌then◌else◌, refl, sym, ap, ◌∙◌, arith}
use Rattle.std.specs.Prelude.{◌/◌, ◌%◌, nat_eq}
use Rattle.std.proofs.lemmas.Bool.Decides.{nat_tests}
use Rattle.std.proofs.Math.Nat.{le-div_iff_mul-le}
use Rattle.v_flat.specs.Delays.{few_steps, most_delay, whole_steps}

pub no_step : (fs step : ℕ) → step ≡ 0 → None ≡ whole_steps fs step
no_step fs zero h = refl
no_step fs (suc step) h = absurd (cc)

is_zero : (n : ℕ) → n ≡ 0 → nat_eq n 0 ≡ true
is_zero n h = grind (arith, nat_tests)

no_zero : (n : ℕ) → (n ≡ 0 → ⊥) → nat_eq n 0 ≡ false
no_zero zero h = absurd (h refl)
no_zero (suc n) h = grind arith

pub whole : (fs step : ℕ) (r : Option ℕ) → (step ≡ 0 → ⊥) → fs % step ≡ 0 → r ≡ few_steps (fs / step) → r ≡ whole_steps fs step
whole fs zero r h e f = absurd (h refl)
whole fs (suc step) r h e f = f ∙ ap (λ (b : Bool). if b then few_steps (fs / suc step) else None) (sym (is_zero (fs % suc step) e))

pub not_whole : (fs step : ℕ) → (fs % step ≡ 0 → ⊥) → None ≡ whole_steps fs step
not_whole fs zero h = refl
not_whole fs (suc step) h = ap (λ (b : Bool). if b then few_steps (fs / suc step) else None) (sym (no_zero (fs % suc step) h))

-- ---- products that are too large for the code

too_long : (k : ℕ) → most_delay < k → nat_le k most_delay ≡ false
too_long k h = grind (arith, nat_tests)

too_many : (k : ℕ) → most_delay < k → None ≡ few_steps k
too_many k h = ap (λ (b : Bool). if b then Some k else None) (sym (too_long k h))

divided : (n step : ℕ) → 2 ^ 128 ≤ n → 0 < step → step < 2 ^ 64 → most_delay < n / step
divided n step h pos low =
    let f : 9223372036854775808 * step ≤ n = omega (arith, h, low) in
    let k : 9223372036854775808 ≤ n / step = (le-div_iff_mul-le {k = step} {x = 9223372036854775808} {y = n} pos).1 f in
    omega (arith, k)

none_or : (b : Bool) (r : Option ℕ) → None ≡ r → None ≡ (if b then r else None)
none_or true r h = h
none_or false r h = refl

pub too_large : (n step : ℕ) → 2 ^ 128 ≤ n → step < 2 ^ 64 → None ≡ whole_steps n step
too_large n zero h low = refl
too_large n (suc k) h low = none_or (nat_eq (n % suc k) 0) (few_steps (n / suc k)) (too_many (n / suc k) (divided n (suc k) h (omega arith) low))

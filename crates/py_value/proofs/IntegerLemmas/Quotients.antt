-- Division by sign and absolute value.
use Rattle.std.proofs.Common.{◌≡◌, ℕ, zero, suc, ◌+◌, ◌-◌, ◌*◌, ◌/◌, ◌%◌, ◌^◌, ◌<◌, ◌≤◌, Bool, true, false, Some, refl, arith, ap, sym, ◌∙◌, inl, inr, ◌⊎◌, add-one}
use Rattle.std.specs.Prelude.{pos, negsuc, neg_ℤ}
use Rattle.std.specs.Int.{int_div_euclid, int_rem_euclid}
use Rattle.std.proofs.Math.Nat.{zero-div, zero-mod, div-eq_of_lt}
use Rattle.std.proofs.Math.Pow.{pow_mono}
use Rattle.std.proofs.lemmas.Bool.{cases_lt}
use Rattle.std.proofs.lemmas.Nat.{div-add-mod', div-mul-add, mod-mul-add}
use Rattle.py_value.specs.Integer.Integer.{held, signed, floor_quotient, floor_rest, shifted_right}
use Rattle.py_value.proofs.IntegerLemmas.Held.{held_low, held_below}

-- the next number is a multiple, or its rest is one more
Next : ℕ → ℕ → Type 0
Next n b = ((suc n % b ≡ 0) × (suc n / b ≡ suc (n / b)) × (n % b + 1 ≡ b)) ⊎ ((suc n % b ≡ suc (n % b)) × (suc n / b ≡ n / b) × (suc (n % b) < b))

next : (n b : ℕ) → 0 < b → Next n b
unfolding Next
next n b p =
    let e : suc n ≡ n / b * b + suc (n % b) = omega (arith, div-add-mod' n b) in
    elim (cases_lt (suc (n % b)) b) [
      | inl h ↦ inr (ap (λ k. k % b) e ∙ mod-mul-add (n / b) b (suc (n % b)) h, ap (λ k. k / b) e ∙ div-mul-add (n / b) b (suc (n % b)) h, h)
      | inr h ↦
          let r : suc (n % b) ≡ b = omega arith in
          let f : suc n ≡ suc (n / b) * b + 0 = omega (arith, e) in
          inl (ap (λ k. k % b) f ∙ mod-mul-add (suc (n / b)) b 0 p, ap (λ k. k / b) f ∙ div-mul-add (suc (n / b)) b 0 p, omega arith)
    ]

quotient_down : (a b : ℕ) → 0 < b → a % b ≡ 0 → int_div_euclid (neg_ℤ (pos a)) (pos b) ≡ neg_ℤ (pos (a / b))
unfolding Next
quotient_down zero b p e = rw (zero-div b) refl
quotient_down (suc n) b p e = elim (next n b p) [ inl s ↦ rw s.1 refl | inr s ↦ absurd (omega (arith, s.0)) ]

quotient_over : (a b : ℕ) → 0 < b → (a % b ≡ 0 → ⊥) → int_div_euclid (neg_ℤ (pos a)) (pos b) ≡ neg_ℤ (pos (a / b + 1))
unfolding Next
quotient_over zero b p e = absurd (e (zero-mod b))
quotient_over (suc n) b p e = elim (next n b p) [ inl s ↦ absurd (e s.0) | inr s ↦ rw (s.1, add-one) refl ]

rest_down : (a b : ℕ) → 0 < b → a % b ≡ 0 → int_rem_euclid (neg_ℤ (pos a)) (pos b) ≡ pos 0
unfolding Next
rest_down zero b p e = ap pos (zero-mod b)
rest_down (suc n) b p e = elim (next n b p) [ inl s ↦ ap pos (omega (arith, s.2)) | inr s ↦ absurd (omega (arith, s.0)) ]

rest_over : (a b : ℕ) → 0 < b → (a % b ≡ 0 → ⊥) → int_rem_euclid (neg_ℤ (pos a)) (pos b) ≡ pos (b - a % b)
unfolding Next
rest_over zero b p e = absurd (e (zero-mod b))
rest_over (suc n) b p e = elim (next n b p) [ inl s ↦ absurd (e s.0) | inr s ↦ ap pos (omega (arith, s.0)) ]

above_zero : (t : Bool) (b : ℕ) → (signed t b ≡ pos 0 → ⊥) → 0 < b
above_zero false zero h = absurd (h refl)
above_zero true zero h = absurd (h refl)
above_zero t (suc b) h = omega arith

pub quotient_whole : (s t : Bool) (a b : ℕ) → (s ≡ t → ⊥) → (signed t b ≡ pos 0 → ⊥) → a % b ≡ 0 → floor_quotient (signed s a) (signed t b) ≡ neg_ℤ (pos (a / b))
quotient_whole false false a b u h e = absurd (u refl)
quotient_whole true true a b u h e = absurd (u refl)
quotient_whole true false a b u h e = quotient_down a b (above_zero false b h) e
quotient_whole false true a zero u h e = absurd (h refl)
quotient_whole false true a (suc b) u h e = quotient_down a (suc b) (omega arith) e

pub quotient_broken : (s t : Bool) (a b : ℕ) → (s ≡ t → ⊥) → (signed t b ≡ pos 0 → ⊥) → (a % b ≡ 0 → ⊥) → floor_quotient (signed s a) (signed t b) ≡ neg_ℤ (pos (a / b + 1))
quotient_broken false false a b u h e = absurd (u refl)
quotient_broken true true a b u h e = absurd (u refl)
quotient_broken true false a b u h e = quotient_over a b (above_zero false b h) e
quotient_broken false true a zero u h e = absurd (h refl)
quotient_broken false true a (suc b) u h e = quotient_over a (suc b) (omega arith) e

pub rest_alike : (s t : Bool) (a b : ℕ) → s ≡ t → (signed t b ≡ pos 0 → ⊥) → floor_rest (signed s a) (signed t b) ≡ signed t (a % b)
rest_alike false true a b u h = absurd (cc)
rest_alike true false a b u h = absurd (cc)
rest_alike false false a b u h = refl
rest_alike true true a zero u h = absurd (h refl)
rest_alike true true zero (suc b) u h = refl
rest_alike true true (suc a) (suc b) u h = refl

pub rest_whole : (s t : Bool) (a b : ℕ) → (signed t b ≡ pos 0 → ⊥) → a % b ≡ 0 → floor_rest (signed s a) (signed t b) ≡ signed t (a % b)
rest_whole false false a b h e = refl
rest_whole true true a b h e = rest_alike true true a b refl h
rest_whole true false a b h e = rest_down a b (above_zero false b h) e ∙ ap pos (sym e)
rest_whole false true a zero h e = absurd (h refl)
rest_whole false true a (suc b) h e = ap neg_ℤ (rest_down a (suc b) (omega arith) e ∙ ap pos (sym e))

pub rest_broken : (s t : Bool) (a b : ℕ) → (s ≡ t → ⊥) → (signed t b ≡ pos 0 → ⊥) → (a % b ≡ 0 → ⊥) → floor_rest (signed s a) (signed t b) ≡ signed t (b - a % b)
rest_broken false false a b u h e = absurd (u refl)
rest_broken true true a b u h e = absurd (u refl)
rest_broken true false a b u h e = rest_over a b (above_zero false b h) e
rest_broken false true a zero u h e = absurd (h refl)
rest_broken false true a (suc b) u h e = ap neg_ℤ (rest_over a (suc b) (omega arith) e)

pub ruleset quotients = (quotient_whole, quotient_broken)

pub ruleset rests = (rest_alike, rest_whole, rest_broken)

-- ---- shifts by 128 places or more

past : (n k : ℕ) → n < 2 ^ 128 → 128 ≤ k → n / 2 ^ k ≡ 0
past n k h p = let q : 2 ^ 128 ≤ 2 ^ k = pow_mono {i = 128} {j = k} p in div-eq_of_lt (omega arith)

pub shifted_below : (s : Bool) (n k : ℕ) → s ≡ true → (n ≡ 0 → ⊥) → n < 2 ^ 128 → 128 ≤ k → held (shifted_right (signed s n) k) ≡ Some (negsuc 0)
shifted_below false n k e z h p = absurd (cc)
shifted_below true zero k e z h p = absurd (z refl)
shifted_below true (suc n) k e z h p = rw (past n k (omega arith) p) (held_below 1 (omega arith))

pub shifted_away : (s : Bool) (n k : ℕ) → s ≡ false → n < 2 ^ 128 → 128 ≤ k → held (shifted_right (signed s n) k) ≡ Some (pos 0)
shifted_away true n k e h p = absurd (cc)
shifted_away false n k e h p = rw (past n k h p) (held_low 0 (omega arith))

pub shifted_zero : (s : Bool) (n k : ℕ) → n ≡ 0 → 128 ≤ k → held (shifted_right (signed s n) k) ≡ Some (pos 0)
shifted_zero true zero k e p = rw (zero-div (2 ^ k)) (held_low 0 (omega arith))
shifted_zero false zero k e p = rw (zero-div (2 ^ k)) (held_low 0 (omega arith))
shifted_zero s (suc n) k e p = absurd (cc)

pub ruleset far_shifts = (shifted_below, shifted_away, shifted_zero)

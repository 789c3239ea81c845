-- Results that a value can hold.
use Rattle.std.proofs.Common.{◌≡◌, ℕ, suc, zero, ◌+◌, ◌-◌, ◌^◌, ◌<◌, ◌≤◌, Bool, true, false, Some, None, refl, arith, sym}
use Rattle.std.specs.Prelude.{pos, neg_ℤ, ◌+ℤ◌}
use Rattle.std.proofs.lemmas.Bool.{le-leb, lt-leb}
use Rattle.std.proofs.lemmas.Int.{ints}
use Rattle.py_value.specs.Integer.Integer.{held, signed}

pub held_low : (n : ℕ) → n < 2 ^ 127 → held (pos n) ≡ Some (pos n)
unfolding held
held_low n h = rw (le-leb n (2 ^ 127 - 1) (omega arith)) refl

pub held_far : (n : ℕ) → 2 ^ 127 ≤ n → held (pos n) ≡ None
unfolding held
held_far n h = rw (lt-leb n (2 ^ 127 - 1) (omega arith)) refl

pub held_below : (n : ℕ) → n ≤ 2 ^ 127 → held (neg_ℤ (pos n)) ≡ Some (neg_ℤ (pos n))
unfolding held
held_below zero h = refl
held_below (suc n) h = rw (le-leb n (2 ^ 127 - 1) (omega arith)) refl

pub held_far_below : (n : ℕ) → 2 ^ 127 < n → held (neg_ℤ (pos n)) ≡ None
unfolding held
held_far_below zero h = absurd (omega arith)
held_far_below (suc n) h = rw (lt-leb n (2 ^ 127 - 1) (omega arith)) refl

pub ruleset held_results = (held_low, held_far, held_below, held_far_below)

signed_far : (s : Bool) (n : ℕ) → 2 ^ 127 < n → held (signed s n) ≡ None
signed_far false n h = held_far n (omega arith)
signed_far true n h = held_far_below n h

negative_sum : (a b : ℕ) → neg_ℤ (pos a) +ℤ neg_ℤ (pos b) ≡ neg_ℤ (pos (a + b))
negative_sum a b = omega (arith, ints)

signed_sum : (s : Bool) (a b : ℕ) → signed s a +ℤ signed s b ≡ signed s (a + b)
signed_sum false a b = refl
signed_sum true a b = negative_sum a b

pub sum_far : (s t : Bool) (a b : ℕ) → s ≡ t → 2 ^ 128 ≤ a + b → held (signed s a +ℤ signed t b) ≡ None
sum_far s t a b e h = rw (sym e, signed_sum s a b) (signed_far s (a + b) (omega arith))

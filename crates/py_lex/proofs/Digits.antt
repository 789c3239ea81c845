-- A number that is too great stays so.
use Rattle.std.proofs.Common.{◌≡◌, ℕ, ◌+◌, ◌*◌, ◌^◌, ◌<◌, ◌≤◌, Bool, true, false, List, [], ◌∷◌, Option, None, Some, nat_lt, ◌==◌, refl, sym, arith, suc, length, get_or, drop, drop-cons}
use Rattle.std.proofs.Math.Nat.{le-mul_of_pos_right}
use Rattle.std.proofs.lemmas.Bool.Decides.{nat_tests}
use Rattle.std.specs.Prelude.{if◌then◌else◌}
use Rattle.py_syntax.specs.Numbers.{digits_from, digit_value, allowed}
use Rattle.py_lex.specs.Limit.{limited, limited_option}

pub limited_none : (n : ℕ) → 2 ^ 127 ≤ n → limited n ≡ None
limited_none n h = grind (arith, nat_tests)

pub too_great : (base : ℕ) (after_digit : Bool) (value : ℕ) (bs : List ℕ) → 2 ≤ base → 2 ^ 127 ≤ value → limited_option (digits_from base after_digit value bs) ≡ None
unfolding digits_from
too_great base true value [] low h = limited_none value h
too_great base false value [] low h = refl
too_great base after_digit value (b ∷ bs) low h =
    let more : 2 ^ 127 ≤ value * base + digit_value b = omega (arith, le-mul_of_pos_right {m = base} value (omega arith)) in
    go (b == 95) after_digit (nat_lt (digit_value b) base) (too_great base false value bs low h) (too_great base true (value * base + digit_value b) bs low more)
  where
    go : (x y z : Bool) → limited_option (digits_from base false value bs) ≡ None → limited_option (digits_from base true (value * base + digit_value b) bs) ≡ None
        → limited_option (if x then (if y then digits_from base false value bs else None) else (if z then digits_from base true (value * base + digit_value b) bs else None)) ≡ None
    go true true z p q = p
    go true false z p q = refl
    go false y true p q = q
    go false y false p q = refl

pub allowed_none : (word : List ℕ) (x : Option ℕ) → limited_option x ≡ None → allowed word x ≡ None
allowed_none word None e = refl
allowed_none word (Some n) e = grind (arith, nat_tests)

pub allowed_some : (word : List ℕ) (x : Option ℕ) (n : ℕ) → limited_option x ≡ Some n → x ≡ Some n
allowed_some word None n e = cc
allowed_some word (Some m) n e = grind (arith, nat_tests)

limited_big : (n : ℕ) → None ≡ limited n → 2 ^ 127 ≤ n
limited_big n e = grind (arith, nat_tests)

digits_at : (base : ℕ) (a : Bool) (v b : ℕ) (bs : List ℕ) → 2 ≤ base → (b ≡ 95 → ⊥) → digit_value b < base → 2 ^ 127 ≤ v * base + digit_value b → None ≡ limited_option (digits_from base a v (b ∷ bs))
unfolding digits_from
digits_at base a v b bs low h k big =
    let e : (b == 95) ≡ false = grind (arith, nat_tests) in
    let f : nat_lt (digit_value b) base ≡ true = grind (arith, nat_tests) in
    rw (e, f) (sym (too_great base true (v * base + digit_value b) bs low big))

-- A digit that makes the number too great.
pub digits_stop : (base : ℕ) (a : Bool) (v i d : ℕ) (bs : List ℕ) → i < length bs → 2 ≤ base → (get_or bs i 0 ≡ 95 → ⊥) → d ≡ digit_value (get_or bs i 0) → d < base
    → None ≡ limited (v * base + d) → None ≡ limited_option (digits_from base a v (drop i bs))
digits_stop base a v i d bs inside low h e k n =
    rw (drop-cons bs i 0 inside) (digits_at base a v (get_or bs i 0) (drop (suc i) bs) low h (rw e at k) (limited_big _ (rw e at n)))

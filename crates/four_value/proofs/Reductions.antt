-- The folds over all digits of a vector, by its planes.
use Rattle.std.proofs.Common.{◌≡◌, ℕ, zero, suc, ◌+◌, ◌%◌, ◌/◌, ◌^◌, ◌-◌, ◌<◌, ◌≤◌, min, max, Bool, true, false, cond, ltb, List, [], ◌∷◌, refl, sym, ap, ◌∙◌, ⊎_elim, arith, rules}
use Rattle.std.specs.Prelude.{◌||◌, bit_and, bit_or, bit_xor}
use Rattle.std.specs.Int.{bit_at, from_bool}
use Rattle.std.specs.List.{list_any}
use Rattle.std.specs.Int.Count.{ones, ones_step, ones-ones}
use Rattle.std.proofs.lemmas.Bool.{lt-ltb, le-ltb, cases_lt}
use Rattle.std.proofs.lemmas.Nat.{xor_lt, or_lt, and_le_l, pow_pos}
use Rattle.std.proofs.lemmas.Nat.Bits.{bit_at-lt, bit_at-suc, bit_at_lowest, bit_at_and, bit_at_or, bit_at_xor, bit_at_ones}
use Rattle.four_value.specs.declared.Digit.{Digit}
use Rattle.four_value.specs.declared.Digit.TheVariants.{Zero, One, X, Z}
use Rattle.four_value.specs.Vector.{reduce, and_digit, or_digit, xor_digit, is_unknown}
use Rattle.four_value.specs.Planes.{digit_of, digits}
use Rattle.four_value.specs.Back.{half_below}
use Rattle.four_value.proofs.Tables.{at_bits2}

-- ---- whether some digit passes a test

any_step : (x : Bool) (m : ℕ) → from_bool x ≡ m % 2 → (x || ltb 0 (m / 2)) ≡ ltb 0 m
any_step true m e = sym (lt-ltb 0 m (omega arith))
any_step false m e =
    ⊎_elim
    (λ (h : 0 < m / 2). lt-ltb 0 (m / 2) h ∙ sym (lt-ltb 0 m (omega arith)))
    (λ (h : m / 2 ≤ 0). le-ltb 0 (m / 2) h ∙ sym (le-ltb 0 m (omega arith)))
    (cases_lt 0 (m / 2))

-- some digit passes exactly where the plane of those that pass isn't 0
pub any_plane : (p : Digit → Bool) (w a b m : ℕ) → m < 2 ^ w → ((i : ℕ) → i < w → from_bool (p (digit_of (bit_at a i) (bit_at b i))) ≡ bit_at m i) →
    list_any p (digits w a b) ≡ ltb 0 m
unfolding digits
any_plane p zero a b m h same = sym (le-ltb 0 m (omega arith))
any_plane p (suc w) a b m h same =
    let first : from_bool (p (digit_of (a % 2) (b % 2))) ≡ m % 2 = simp bit_at_lowest at (same 0 (omega arith)) in
    let rest = any_plane p w (a / 2) (b / 2) (m / 2) (half_below w m h) (λ i k. simp bit_at-suc at (same (suc i) (omega arith))) in
    rw rest (any_step (p (digit_of (a % 2) (b % 2))) m first)

abbrev pub is_zero : Digit → Bool
is_zero Zero = true
is_zero _ = false

abbrev pub is_one : Digit → Bool
is_one One = true
is_one _ = false

pub any_unknown : (w a b : ℕ) → b < 2 ^ w → list_any is_unknown (digits w a b) ≡ ltb 0 b
any_unknown w a b h =
    any_plane is_unknown w a b b h (λ i k. at_bits2 (λ p q. from_bool (is_unknown (digit_of p q)) ≡ q) (search rules) (bit_at a i) (bit_at b i) (bit_at-lt a i) (bit_at-lt b i))

pub any_one : (w a b : ℕ) → a < 2 ^ w → list_any is_one (digits w a b) ≡ ltb 0 (bit_xor a (bit_and a b))
any_one w a b h =
    any_plane is_one w a b (bit_xor a (bit_and a b)) (xor_lt w a (bit_and a b) h (omega (arith, and_le_l a b))) (λ i k.
    simp (bit_at_and, bit_at_xor)
    (at_bits2 (λ p q. from_bool (is_one (digit_of p q)) ≡ (p + min p q) % 2) (search rules) (bit_at a i) (bit_at b i) (bit_at-lt a i) (bit_at-lt b i)))

pub any_zero : (w a b : ℕ) → a < 2 ^ w → b < 2 ^ w → list_any is_zero (digits w a b) ≡ ltb 0 (bit_xor (bit_or a b) (2 ^ w - 1))
any_zero w a b h k =
    any_plane is_zero w a b (bit_xor (bit_or a b) (2 ^ w - 1)) (xor_lt w (bit_or a b) (2 ^ w - 1) (or_lt w a b h k) (omega (arith, pow_pos w))) (λ i l.
    simp (bit_at_or, bit_at_xor, bit_at_ones w i l)
    (at_bits2 (λ p q. from_bool (is_zero (digit_of p q)) ≡ (max p q + 1) % 2) (search rules) (bit_at a i) (bit_at b i) (bit_at-lt a i) (bit_at-lt b i)))

-- ---- folds of `&`: 0 where a digit is 0, else x where one is unknown, else 1

and_step : (d : Digit) (z u : Bool) → and_digit d (cond z Zero (cond u X One)) ≡ cond (is_zero d || z) Zero (cond (is_unknown d || u) X One)
and_step Zero z u = refl
and_step One true u = refl
and_step One false true = refl
and_step One false false = refl
and_step X true u = refl
and_step X false true = refl
and_step X false false = refl
and_step Z true u = refl
and_step Z false true = refl
and_step Z false false = refl

pub reduce_and_by : (ds : List Digit) → reduce and_digit One ds ≡ cond (list_any is_zero ds) Zero (cond (list_any is_unknown ds) X One)
reduce_and_by [] = refl
reduce_and_by (d ∷ ds) = rw (reduce_and_by ds) (and_step d (list_any is_zero ds) (list_any is_unknown ds))

reduce_and_is : (w a b m : ℕ) (ds : List Digit) → digits w a b ≡ ds → a < 2 ^ w → b < 2 ^ w → m ≡ 2 ^ w - 1 →
    reduce and_digit One ds ≡ cond (ltb 0 (bit_xor (bit_or a b) m)) Zero (cond (ltb 0 b) X One)
reduce_and_is w a b m ds e h k f = reduce_and_by ds ∙ rw (f, ← e, any_zero w a b h k, any_unknown w a b k) refl

pub reduce_and_zero : (w a b m : ℕ) (ds : List Digit) → digits w a b ≡ ds → a < 2 ^ w → b < 2 ^ w → m ≡ 2 ^ w - 1 → 0 < bit_xor (bit_or a b) m → Zero ≡ reduce and_digit One ds
reduce_and_zero w a b m ds e h k f p = sym (reduce_and_is w a b m ds e h k f ∙ rw (lt-ltb 0 (bit_xor (bit_or a b) m) p) refl)

pub reduce_and_x : (w a b m : ℕ) (ds : List Digit) → digits w a b ≡ ds → a < 2 ^ w → b < 2 ^ w → m ≡ 2 ^ w - 1 → bit_xor (bit_or a b) m ≤ 0 → 0 < b → X ≡ reduce and_digit One ds
reduce_and_x w a b m ds e h k f p q = sym (reduce_and_is w a b m ds e h k f ∙ rw (le-ltb 0 (bit_xor (bit_or a b) m) p, lt-ltb 0 b q) refl)

pub reduce_and_one : (w a b m : ℕ) (ds : List Digit) → digits w a b ≡ ds → a < 2 ^ w → b < 2 ^ w → m ≡ 2 ^ w - 1 → bit_xor (bit_or a b) m ≤ 0 → b ≤ 0 → One ≡ reduce and_digit One ds
reduce_and_one w a b m ds e h k f p q = sym (reduce_and_is w a b m ds e h k f ∙ rw (le-ltb 0 (bit_xor (bit_or a b) m) p, le-ltb 0 b q) refl)

-- ---- folds of `|`: 1 where a digit is 1, else x where one is unknown, else 0

or_step : (d : Digit) (o u : Bool) → or_digit d (cond o One (cond u X Zero)) ≡ cond (is_one d || o) One (cond (is_unknown d || u) X Zero)
or_step Zero true u = refl
or_step Zero false true = refl
or_step Zero false false = refl
or_step One o u = refl
or_step X true u = refl
or_step X false true = refl
or_step X false false = refl
or_step Z true u = refl
or_step Z false true = refl
or_step Z false false = refl

reduce_or_by : (ds : List Digit) → reduce or_digit Zero ds ≡ cond (list_any is_one ds) One (cond (list_any is_unknown ds) X Zero)
reduce_or_by [] = refl
reduce_or_by (d ∷ ds) = rw (reduce_or_by ds) (or_step d (list_any is_one ds) (list_any is_unknown ds))

reduce_or_is : (w a b : ℕ) (ds : List Digit) → digits w a b ≡ ds → a < 2 ^ w → b < 2 ^ w →
    reduce or_digit Zero ds ≡ cond (ltb 0 (bit_xor a (bit_and a b))) One (cond (ltb 0 b) X Zero)
reduce_or_is w a b ds e h k = reduce_or_by ds ∙ rw (← e, any_one w a b h, any_unknown w a b k) refl

pub reduce_or_one : (w a b : ℕ) (ds : List Digit) → digits w a b ≡ ds → a < 2 ^ w → b < 2 ^ w → 0 < bit_xor a (bit_and a b) → One ≡ reduce or_digit Zero ds
reduce_or_one w a b ds e h k p = sym (reduce_or_is w a b ds e h k ∙ rw (lt-ltb 0 (bit_xor a (bit_and a b)) p) refl)

pub reduce_or_x : (w a b : ℕ) (ds : List Digit) → digits w a b ≡ ds → a < 2 ^ w → b < 2 ^ w → bit_xor a (bit_and a b) ≤ 0 → 0 < b → X ≡ reduce or_digit Zero ds
reduce_or_x w a b ds e h k p q = sym (reduce_or_is w a b ds e h k ∙ rw (le-ltb 0 (bit_xor a (bit_and a b)) p, lt-ltb 0 b q) refl)

pub reduce_or_zero : (w a b : ℕ) (ds : List Digit) → digits w a b ≡ ds → a < 2 ^ w → b < 2 ^ w → bit_xor a (bit_and a b) ≤ 0 → b ≤ 0 → Zero ≡ reduce or_digit Zero ds
reduce_or_zero w a b ds e h k p q = sym (reduce_or_is w a b ds e h k ∙ rw (le-ltb 0 (bit_xor a (bit_and a b)) p, le-ltb 0 b q) refl)

-- ---- folds of `^`: x where a digit is unknown, else the parity of the plane of values

xor_bits : (p q : ℕ) → p < 2 → q < 2 → xor_digit (digit_of p 0) (digit_of q 0) ≡ digit_of ((p + q) % 2) 0
xor_bits p q h k = at_bits2 (λ p q. xor_digit (digit_of p 0) (digit_of q 0) ≡ digit_of ((p + q) % 2) 0) (search rules) p q h k

reduce_xor_known : (w a : ℕ) → a < 2 ^ w → reduce xor_digit Zero (digits w a 0) ≡ digit_of (ones a % 2) 0
unfolding digits
reduce_xor_known zero a h = let e : a ≡ 0 = omega arith in rw (e, ones-ones 0) refl
reduce_xor_known (suc w) a h =
    let parity : (a % 2 + ones (a / 2) % 2) % 2 ≡ ones a % 2 = omega (arith, ones_step a) in
    rw (reduce_xor_known w (a / 2) (half_below w a h)) (xor_bits (a % 2) (ones (a / 2) % 2) (omega arith) (omega arith) ∙ ap (λ (n : ℕ). digit_of n 0) parity)

reduce_xor_unknown : (ds : List Digit) → list_any is_unknown ds ≡ true → reduce xor_digit Zero ds ≡ X
reduce_xor_unknown [] h = cc
reduce_xor_unknown (Zero ∷ ds) h = rw (reduce_xor_unknown ds h) refl
reduce_xor_unknown (One ∷ ds) h = rw (reduce_xor_unknown ds h) refl
reduce_xor_unknown (X ∷ ds) h = refl
reduce_xor_unknown (Z ∷ ds) h = refl

pub reduce_xor_x : (w a b : ℕ) (ds : List Digit) → digits w a b ≡ ds → b < 2 ^ w → 0 < b → X ≡ reduce xor_digit Zero ds
reduce_xor_x w a b ds e h k = sym (rw (← e) (reduce_xor_unknown (digits w a b) (any_unknown w a b h ∙ lt-ltb 0 b k)))

reduce_xor_is : (w a b : ℕ) (ds : List Digit) → digits w a b ≡ ds → a < 2 ^ w → b ≤ 0 → reduce xor_digit Zero ds ≡ digit_of (ones a % 2) 0
reduce_xor_is w a b ds e h k = let z : b ≡ 0 = omega arith in rw (← e, z) (reduce_xor_known w a h)

pub reduce_xor_even : (w a b : ℕ) (ds : List Digit) → digits w a b ≡ ds → a < 2 ^ w → b ≤ 0 → ones a % 2 ≡ 0 → Zero ≡ reduce xor_digit Zero ds
reduce_xor_even w a b ds e h k even = sym (reduce_xor_is w a b ds e h k ∙ rw even refl)

pub reduce_xor_odd : (w a b : ℕ) (ds : List Digit) → digits w a b ≡ ds → a < 2 ^ w → b ≤ 0 → (ones a % 2 ≡ 0 → ⊥) → One ≡ reduce xor_digit Zero ds
reduce_xor_odd w a b ds e h k odd = let one : ones a % 2 ≡ 1 = omega arith in sym (reduce_xor_is w a b ds e h k ∙ rw one refl)

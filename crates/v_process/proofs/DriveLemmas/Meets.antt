-- Drives that have a digit in common, by their masks.
use Rattle.std.proofs.Common.{◌≡◌, ℕ, ◌+◌, ◌<◌, ◌≤◌, ◌==◌, ◌&&◌, ◌||◌, not, max, min, Bool, true, false, nat_eq, nat_lt, bit_and, bit_or, List, [], ◌∷◌, ◌++◌, refl, sym, ap, ◌∙◌, arith}
use Rattle.std.proofs.lemmas.Bool.Decides.{nat_tests}
use Rattle.std.proofs.lemmas.List.Folds.{list_any-append}
use Rattle.std.proofs.lemmas.Nat.Bits.{bit_at-zero, bit_at_and, bit_at_or, same_from_bits}
use Rattle.std.specs.Int.{bit_at, from_bool}
use Rattle.four_value.specs.Limits.{most_digits}
use Rattle.v_flat.specs.Targets.{Drive, meets, is_driven}
use Rattle.v_process.specs.Drive.Digits.{IsInVector, digit}
use Rattle.v_process.specs.Drive.Masks.{mask}
use Rattle.v_process.proofs.DriveLemmas.Bits.{covers, mask_bit}

-- ---- one digit

digit_meets : (d : Drive) (i : ℕ) → meets (digit d.signal i) d ≡ covers d i
digit_meets d i = grind (arith, nat_tests)

other_meets : (d : Drive) (q i : ℕ) → (q == d.signal) ≡ false → meets (digit q i) d ≡ false
other_meets d q i h = ap (λ (b : Bool). b && nat_lt (max i d.low) (min (i + 1) (d.low + d.count))) h

-- ---- the digits that are driven

-- digit i is one of d's, and one of these drives it
abbrev Shares : Drive → List Drive → ℕ → Type 0
Shares d ds i = (d.low ≤ i) × (i < d.low + d.count) × (is_driven (digit d.signal i) ds ≡ true)

or_right : (a b : Bool) → b ≡ true → (a || b) ≡ true
or_right true b h = refl
or_right false b h = h

or_left : (a b : Bool) → a ≡ true → (a || b) ≡ true
or_left true b h = refl
or_left false b h = absurd (cc)

first_shares : (d x : Drive) → meets d x ≡ true → (d.low ≤ max d.low x.low) × (max d.low x.low < d.low + d.count) × (meets (digit d.signal (max d.low x.low)) x ≡ true)
first_shares d x h = (omega arith, grind (arith, nat_tests), grind (arith, nat_tests))

some_step : (d x : Drive) (ds : List Drive) (b : Bool) → meets d x ≡ b → (is_driven d ds ≡ true → (i : ℕ) × Shares d ds i) → (b || is_driven d ds) ≡ true
    → (i : ℕ) × Shares d (x ∷ ds) i
some_step d x ds true e rest h =
    let f = first_shares d x e in
    let i = max d.low x.low in (i, (f.0, f.1, or_left (meets (digit d.signal i) x) (is_driven (digit d.signal i) ds) f.2))
some_step d x ds false e rest h =
    let f = rest h in (f.0, (f.1.0, f.1.1, or_right (meets (digit d.signal f.0) x) (is_driven (digit d.signal f.0) ds) f.1.2))

-- where something drives one of d's digits
some_shares : (d : Drive) (ds : List Drive) → is_driven d ds ≡ true → (i : ℕ) × Shares d ds i
some_shares d [] h = absurd (cc)
some_shares d (x ∷ ds) h = some_step d x ds (meets d x) refl (some_shares d ds) h

digit_in : (d x : Drive) (i : ℕ) → d.low ≤ i → i < d.low + d.count → meets (digit d.signal i) x ≡ true → meets d x ≡ true
digit_in d x i h k e = grind (arith, nat_tests)

driven_step : (d x : Drive) (ds : List Drive) (i : ℕ) (b : Bool) → meets (digit d.signal i) x ≡ b → d.low ≤ i → i < d.low + d.count
    → (is_driven (digit d.signal i) ds ≡ true → is_driven d ds ≡ true) → (b || is_driven (digit d.signal i) ds) ≡ true → (meets d x || is_driven d ds) ≡ true
driven_step d x ds i true e h k rest f = or_left (meets d x) (is_driven d ds) (digit_in d x i h k e)
driven_step d x ds i false e h k rest f = or_right (meets d x) (is_driven d ds) (rest f)

-- and the other way round
shares_driven : (d : Drive) (ds : List Drive) (i : ℕ) → d.low ≤ i → i < d.low + d.count → is_driven (digit d.signal i) ds ≡ true → is_driven d ds ≡ true
shares_driven d [] i h k e = absurd (cc)
shares_driven d (x ∷ ds) i h k e = driven_step d x ds i (meets (digit d.signal i) x) refl h k (shares_driven d ds i h k) e

-- ---- masks

-- m has just the driven digits of d's signal
abbrev AreBits : Drive → List Drive → ℕ → Type 0
AreBits d ds m = (i : ℕ) → i < most_digits → bit_at m i ≡ from_bool (is_driven (digit d.signal i) ds)

covered : (d : Drive) (i : ℕ) → d.low ≤ i → i < d.low + d.count → covers d i ≡ true
covered d i h k = grind (arith, nat_tests)

is_covered : (d : Drive) (i : ℕ) → covers d i ≡ true → (d.low ≤ i) × (i < d.low + d.count)
is_covered d i h = (grind (arith, nat_tests), grind (arith, nat_tests))

common_bit : (d : Drive) (ds : List Drive) (m : ℕ) → IsInVector d → AreBits d ds m → (i : ℕ) × Shares d ds i → bit_and m (mask d) ≡ 0 → ⊥
common_bit d ds m fits bits f e =
    let i = f.0 in
    let one : bit_at m i ≡ 1 = bits i (let k = f.1.1 in omega (arith, k, fits)) ∙ ap (λ (b : Bool). from_bool b) f.1.2 in
    let two : bit_at (mask d) i ≡ 1 = mask_bit d i ∙ ap (λ (b : Bool). from_bool b) (covered d i f.1.0 f.1.1) in
    let both : bit_at (bit_and m (mask d)) i ≡ min (bit_at m i) (bit_at (mask d) i) = bit_at_and m (mask d) i in
    let none : bit_at (bit_and m (mask d)) i ≡ 0 = ap (λ (n : ℕ). bit_at n i) e ∙ bit_at-zero i in
    omega (arith, one, two, both, none)

is_free : (d : Drive) (ds : List Drive) (i : ℕ) (b : Bool) → is_driven (digit d.signal i) ds ≡ b → d.low ≤ i → i < d.low + d.count → is_driven d ds ≡ false
    → is_driven (digit d.signal i) ds ≡ false
is_free d ds i true e h k free = (let f : is_driven d ds ≡ true = shares_driven d ds i h k e in absurd (cc))
is_free d ds i false e h k free = e

free_bit : (d : Drive) (ds : List Drive) (m i : ℕ) (b : Bool) → IsInVector d → AreBits d ds m → is_driven d ds ≡ false → covers d i ≡ b
    → min (bit_at m i) (from_bool b) ≡ 0
free_bit d ds m i false fits bits free e = omega arith
free_bit d ds m i true fits bits free e =
    let k = is_covered d i e in
    let unset : bit_at m i ≡ from_bool (is_driven (digit d.signal i) ds) = bits i (let l = k.1 in omega (arith, l, fits)) in
    let zero : bit_at m i ≡ 0 = unset ∙ ap (λ (b : Bool). from_bool b) (is_free d ds i (is_driven (digit d.signal i) ds) refl k.0 k.1 free) in
    omega (arith, zero)

no_bit : (d : Drive) (ds : List Drive) (m : ℕ) → IsInVector d → AreBits d ds m → is_driven d ds ≡ false → bit_and m (mask d) ≡ 0
no_bit d ds m fits bits free = same_from_bits (bit_and m (mask d)) 0 (λ i.
    bit_at_and m (mask d) i ∙ ap (λ (n : ℕ). min (bit_at m i) n) (mask_bit d i) ∙ free_bit d ds m i (covers d i) fits bits free refl ∙ sym (bit_at-zero i))

meets_by : (d : Drive) (ds : List Drive) (m : ℕ) (r : Bool) → IsInVector d → AreBits d ds m → is_driven d ds ≡ r → not (nat_eq (bit_and m (mask d)) 0) ≡ r
meets_by d ds m true fits bits e = (let h = common_bit d ds m fits bits (some_shares d ds e) in grind (arith, nat_tests))
meets_by d ds m false fits bits e = ap (λ (n : ℕ). not (nat_eq n 0)) (no_bit d ds m fits bits e)

-- the mask of a drive meets that of its signal where one of its digits is driven
pub meets_mask : (d : Drive) (ds : List Drive) (m : ℕ) → IsInVector d → AreBits d ds m → not (nat_eq (bit_and m (mask d)) 0) ≡ is_driven d ds
meets_mask d ds m fits bits = meets_by d ds m (is_driven d ds) fits bits refl

-- ---- one more drive

or_false : (b : Bool) → (b || false) ≡ b
or_false true = refl
or_false false = refl

more_driven : (d e : Drive) (ds : List Drive) → is_driven e (ds ++ (d ∷ [])) ≡ (is_driven e ds || meets e d)
more_driven d e ds = list_any-append (λ (x : Drive). meets e x) ds (d ∷ []) ∙ ap (λ (b : Bool). is_driven e ds || b) (or_false (meets e d))

either_bit : (a b : Bool) → max (from_bool a) (from_bool b) ≡ from_bool (a || b)
either_bit true true = refl
either_bit true false = refl
either_bit false true = refl
either_bit false false = refl

-- the digits of d's signal
pub own_bit : (d : Drive) (ds : List Drive) (m q i : ℕ) → (q ≡ d.signal) → bit_at m i ≡ from_bool (is_driven (digit q i) ds)
    → bit_at (bit_or m (mask d)) i ≡ from_bool (is_driven (digit q i) (ds ++ (d ∷ [])))
own_bit d ds m q i e h =
    let own : meets (digit q i) d ≡ covers d i = ap (λ (p : ℕ). meets (digit p i) d) e ∙ digit_meets d i in
    bit_at_or m (mask d) i ∙ ap (λ (n : ℕ). max n (bit_at (mask d) i)) h ∙ ap (λ (n : ℕ). max (from_bool (is_driven (digit q i) ds)) n) (mask_bit d i)
    ∙ either_bit (is_driven (digit q i) ds) (covers d i)
    ∙ ap (λ (b : Bool). from_bool (is_driven (digit q i) ds || b)) (sym own) ∙ ap (λ (b : Bool). from_bool b) (sym (more_driven d (digit q i) ds))

-- and those of another one
pub other_bit : (d : Drive) (ds : List Drive) (m q i : ℕ) → (q == d.signal) ≡ false → bit_at m i ≡ from_bool (is_driven (digit q i) ds)
    → bit_at m i ≡ from_bool (is_driven (digit q i) (ds ++ (d ∷ [])))
other_bit d ds m q i e h =
    h ∙ ap (λ (b : Bool). from_bool b) (sym (more_driven d (digit q i) ds ∙ ap (λ (b : Bool). is_driven (digit q i) ds || b) (other_meets d q i e) ∙ or_false (is_driven (digit q i) ds)))

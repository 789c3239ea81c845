-- Operations on planes, digit by digit.
use Rattle.std.proofs.Common.{◌≡◌, ℕ, zero, suc, ◌+◌, ◌%◌, ◌^◌, ◌-◌, ◌<◌, min, max, List, [], ◌∷◌, length, get_or, map, refl, sym, ap, ◌∙◌, arith, rules}
use Rattle.std.specs.Int.{bit_at}
use Rattle.std.specs.Prelude.{bit_and, bit_or, bit_xor}
use Rattle.std.proofs.lemmas.Nat.{or_lt, xor_lt, and_le_l}
use Rattle.std.proofs.lemmas.Nat.Bits.{bit_at-lt, bit_at_and, bit_at_or, bit_at_xor, bit_at_ones}
use Rattle.std.proofs.lemmas.List.{length-map, get_or-map}
use Rattle.four_value.specs.declared.Digit.{Digit}
use Rattle.four_value.specs.declared.Digit.TheVariants.{X}
use Rattle.four_value.specs.Vector.{map2, and_digit, or_digit, xor_digit, not_digit, merge_digit}
use Rattle.four_value.specs.Planes.{digit_of, digits}
use Rattle.four_value.specs.Back.{digits_length}
use Rattle.four_value.proofs.Digits.{get_or-digits, digits_from}

-- ---- what holds of bits, checked at 0 and 1

abbrev pub Each : (ℕ → Type 0) → Type 0
Each P = P 0 × P 1

pub at_bit : (P : ℕ → Type 0) → Each P → (n : ℕ) → n < 2 → P n
at_bit P t zero h = t.0
at_bit P t (suc zero) h = t.1
at_bit P t (suc (suc n)) h = absurd (omega arith)

abbrev pub Table2 : (ℕ → ℕ → Type 0) → Type 0
Table2 P = Each (λ p. Each (λ q. P p q))

abbrev pub Table4 : (ℕ → ℕ → ℕ → ℕ → Type 0) → Type 0
Table4 P = Table2 (λ p q. Table2 (λ r s. P p q r s))

pub at_bits2 : (P : ℕ → ℕ → Type 0) → Table2 P → (p q : ℕ) → p < 2 → q < 2 → P p q
at_bits2 P t p q h k = at_bit (λ n. P p n) (at_bit (λ n. Each (λ m. P n m)) t p h) q k

pub at_bits4 : (P : ℕ → ℕ → ℕ → ℕ → Type 0) → Table4 P → (p q r s : ℕ) → p < 2 → q < 2 → r < 2 → s < 2 → P p q r s
at_bits4 P t p q r s h k l m = at_bits2 (λ r s. P p q r s) (at_bits2 (λ p q. Table2 (λ r s. P p q r s)) t p q h k) r s l m

-- ---- tables, applied at each index

pub length_map2 : (f : Digit → Digit → Digit) (xs ys : List Digit) → length xs ≡ length ys → length (map2 f xs ys) ≡ length xs
length_map2 f [] ys e = refl
length_map2 f (x ∷ xs) [] e = absurd (omega arith)
length_map2 f (x ∷ xs) (y ∷ ys) e = ap suc (length_map2 f xs ys (omega arith))

pub get_or_map2 : (f : Digit → Digit → Digit) (xs ys : List Digit) (i : ℕ) (d e : Digit) → length xs ≡ length ys → i < length xs → get_or (map2 f xs ys) i d ≡ f (get_or xs i e) (get_or ys i e)
get_or_map2 f [] ys i d e l h = absurd (omega arith)
get_or_map2 f (x ∷ xs) [] i d e l h = absurd (omega arith)
get_or_map2 f (x ∷ xs) (y ∷ ys) zero d e l h = refl
get_or_map2 f (x ∷ xs) (y ∷ ys) (suc i) d e l h = get_or_map2 f xs ys i d e (omega arith) (omega arith)

pub same_width : (w v a b c d : ℕ) (xs ys : List Digit) → digits w a b ≡ xs → digits v c d ≡ ys → length xs ≡ length ys → w ≡ v
same_width w v a b c d xs ys e f l = sym (digits_length w a b) ∙ ap length e ∙ l ∙ sym (ap length f) ∙ digits_length v c d

-- planes that agree with a table of two digits at each index
pub binary_from : (f : Digit → Digit → Digit) (w v a b c d m n : ℕ) (xs ys : List Digit) → digits w a b ≡ xs → digits v c d ≡ ys → length xs ≡ length ys →
    ((i : ℕ) → digit_of (bit_at m i) (bit_at n i) ≡ f (digit_of (bit_at a i) (bit_at b i)) (digit_of (bit_at c i) (bit_at d i))) → digits w m n ≡ map2 f xs ys
binary_from f w v a b c d m n xs ys e g l table =
    let same : w ≡ v = same_width w v a b c d xs ys e g l in
    let long : length xs ≡ w = sym (ap length e) ∙ digits_length w a b in
    digits_from w m n (map2 f xs ys) (length_map2 f xs ys l ∙ long) (λ i z h.
    let inside : i < v = omega arith in
    let left : get_or xs i X ≡ digit_of (bit_at a i) (bit_at b i) = ap (λ (q : List Digit). get_or q i X) (sym e) ∙ get_or-digits w a b i X h in
    let right : get_or ys i X ≡ digit_of (bit_at c i) (bit_at d i) = ap (λ (q : List Digit). get_or q i X) (sym g) ∙ get_or-digits v c d i X inside in
    table i ∙ sym (get_or_map2 f xs ys i z X l (omega arith) ∙ ap (λ (q : Digit). f q (get_or ys i X)) left ∙ ap (f (digit_of (bit_at a i) (bit_at b i))) right))

-- planes that agree with a table of one digit at each index
pub unary_from : (f : Digit → Digit) (w a b m n : ℕ) (xs : List Digit) → digits w a b ≡ xs →
    ((i : ℕ) → i < w → digit_of (bit_at m i) (bit_at n i) ≡ f (digit_of (bit_at a i) (bit_at b i))) → digits w m n ≡ map f xs
unary_from f w a b m n xs e table =
    let long : length xs ≡ w = sym (ap length e) ∙ digits_length w a b in
    digits_from w m n (map f xs) (length-map xs f ∙ long) (λ i z h.
    let at : get_or xs i X ≡ digit_of (bit_at a i) (bit_at b i) = ap (λ (q : List Digit). get_or q i X) (sym e) ∙ get_or-digits w a b i X h in
    table i h ∙ sym (get_or-map f xs i X z (omega arith) ∙ ap f at))

-- ---- bounds of planes

-- a bound at another name of the width
pub below_at : (w v n : ℕ) → w ≡ v → n < 2 ^ v → n < 2 ^ w
below_at w v n e h = rw e h

pub and_below : (w a b : ℕ) → a < 2 ^ w → bit_and a b < 2 ^ w
and_below w a b h = omega (arith, and_le_l a b)

pub ruleset plane_bounds = (or_lt, xor_lt, and_below)

-- ---- the tables of the operators, by the formulas that the code has for them

pub and_table : (a b c d i : ℕ) → digit_of (bit_at (bit_and (bit_or a b) (bit_or c d)) i) (bit_at (bit_and (bit_and (bit_or a b) (bit_or c d)) (bit_or b d)) i) ≡ and_digit (digit_of (bit_at a i) (bit_at b i)) (digit_of (bit_at c i) (bit_at d i))
and_table a b c d i =
    simp (bit_at_and, bit_at_or)
    (at_bits4 (λ p q r s. digit_of (min (max p q) (max r s)) (min (min (max p q) (max r s)) (max q s)) ≡ and_digit (digit_of p q) (digit_of r s)) (search rules)
    (bit_at a i) (bit_at b i) (bit_at c i) (bit_at d i) (bit_at-lt a i) (bit_at-lt b i) (bit_at-lt c i) (bit_at-lt d i))

pub or_table : (a b c d i : ℕ) → digit_of (bit_at (bit_or (bit_or (bit_or a b) c) d) i) (bit_at (bit_xor (bit_or (bit_or (bit_or a b) c) d) (bit_or (bit_xor a (bit_and a b)) (bit_xor c (bit_and c d)))) i) ≡ or_digit (digit_of (bit_at a i) (bit_at b i)) (digit_of (bit_at c i) (bit_at d i))
or_table a b c d i =
    simp (bit_at_and, bit_at_or, bit_at_xor)
    (at_bits4 (λ p q r s. digit_of (max (max (max p q) r) s) ((max (max (max p q) r) s + max ((p + min p q) % 2) ((r + min r s) % 2)) % 2) ≡ or_digit (digit_of p q) (digit_of r s)) (search rules)
    (bit_at a i) (bit_at b i) (bit_at c i) (bit_at d i) (bit_at-lt a i) (bit_at-lt b i) (bit_at-lt c i) (bit_at-lt d i))

pub xor_table : (a b c d i : ℕ) → digit_of (bit_at (bit_or (bit_xor a c) (bit_or b d)) i) (bit_at (bit_or b d) i) ≡ xor_digit (digit_of (bit_at a i) (bit_at b i)) (digit_of (bit_at c i) (bit_at d i))
xor_table a b c d i =
    simp (bit_at_or, bit_at_xor)
    (at_bits4 (λ p q r s. digit_of (max ((p + r) % 2) (max q s)) (max q s) ≡ xor_digit (digit_of p q) (digit_of r s)) (search rules)
    (bit_at a i) (bit_at b i) (bit_at c i) (bit_at d i) (bit_at-lt a i) (bit_at-lt b i) (bit_at-lt c i) (bit_at-lt d i))

pub merge_table : (a b c d i : ℕ) → digit_of (bit_at (bit_or (bit_or a c) (bit_or b d)) i) (bit_at (bit_or (bit_xor a c) (bit_or b d)) i) ≡ merge_digit (digit_of (bit_at a i) (bit_at b i)) (digit_of (bit_at c i) (bit_at d i))
merge_table a b c d i =
    simp (bit_at_or, bit_at_xor)
    (at_bits4 (λ p q r s. digit_of (max (max p r) (max q s)) (max ((p + r) % 2) (max q s)) ≡ merge_digit (digit_of p q) (digit_of r s)) (search rules)
    (bit_at a i) (bit_at b i) (bit_at c i) (bit_at d i) (bit_at-lt a i) (bit_at-lt b i) (bit_at-lt c i) (bit_at-lt d i))

pub not_table : (w a b i : ℕ) → i < w → digit_of (bit_at (bit_or (bit_xor a (2 ^ w - 1)) b) i) (bit_at b i) ≡ not_digit (digit_of (bit_at a i) (bit_at b i))
not_table w a b i h =
    simp (bit_at_or, bit_at_xor, bit_at_ones w i h)
    (at_bits2 (λ p q. digit_of (max ((p + 1) % 2) q) q ≡ not_digit (digit_of p q)) (search rules) (bit_at a i) (bit_at b i) (bit_at-lt a i) (bit_at-lt b i))

-- The numbers of vectors, by their planes.
use Rattle.std.proofs.Common.{◌≡◌, ℕ, zero, suc, ◌+◌, ◌*◌, ◌%◌, ◌/◌, ◌^◌, ◌-◌, ◌<◌, ◌≤◌, List, length, get_or, replicate, Option, Some, None, refl, sym, ap, subst, ◌∙◌, arith}
use Rattle.std.specs.Int.{bit_at}
use Rattle.std.proofs.Math.Pow.{mod-mod-pow}
use Rattle.std.proofs.Math.Nat.{add-mul-mod_self_right, suc-mul}
use Rattle.std.proofs.lemmas.Nat.{and_mask, mod_below, pow_pos, pow-add}
use Rattle.std.proofs.lemmas.Nat.Bits.{bit_at-lt, bit_at_and, bit_at_ones, bit_at-zero}
use Rattle.std.proofs.lemmas.List.{length-replicate, get_or-replicate}
use Rattle.four_value.specs.declared.Digit.{Digit}
use Rattle.four_value.specs.declared.Digit.TheVariants.{Zero, One, X, Z}
use Rattle.four_value.specs.Vector.{vector, bit_digit, number, number_step}
use Rattle.four_value.specs.Planes.{digit_of, digits}
use Rattle.four_value.specs.Back.{half_below}
use Rattle.four_value.proofs.Digits.{digits_from, get_or-digits}

-- a low bit of n modulo 2 ^ w
pub bit_at_mod : (n w i : ℕ) → i < w → bit_at (n % 2 ^ w) i ≡ bit_at n i
bit_at_mod n w i h = let k = bit_at-lt n i in rw (← and_mask n w, bit_at_and, bit_at_ones w i h) (omega arith)

pub digit_of_bit : (p : ℕ) → digit_of p 0 ≡ bit_digit p
digit_of_bit zero = refl
digit_of_bit (suc p) = refl

-- planes without an unknown digit
pub digits_known : (w n : ℕ) → digits w n 0 ≡ vector w n
unfolding digits
digits_known zero n = refl
digits_known (suc w) n = rw (digit_of_bit (n % 2), digits_known w (n / 2)) refl

pub get_or_vector : (w n i : ℕ) (d : Digit) → i < w → get_or (vector w n) i d ≡ digit_of (bit_at n i) 0
get_or_vector w n i d h = ap (λ (q : List Digit). get_or q i d) (sym (digits_known w n)) ∙ get_or-digits w n 0 i d h ∙ ap (λ (q : ℕ). digit_of (bit_at n i) q) (bit_at-zero i)

pub length_vector : (w n : ℕ) → length (vector w n) ≡ w
length_vector zero n = refl
length_vector (suc w) n = ap suc (length_vector w (n / 2))

-- a vector has its number modulo 2 ^ width
pub digits_mod : (w n : ℕ) → digits w (n % 2 ^ w) 0 ≡ vector w n
digits_mod w n =
    digits_from w (n % 2 ^ w) 0 (vector w n) (length_vector w n) (λ i d h. rw (bit_at_mod n w i h, bit_at-zero i) (sym (get_or_vector w n i d h)))

pub vector_mod : (w n : ℕ) → vector w (n % 2 ^ w) ≡ vector w n
vector_mod w n = sym (digits_known w (n % 2 ^ w)) ∙ digits_mod w n

step_known : (p n : ℕ) → p < 2 → number_step (digit_of p 0) (Some n) ≡ Some (2 * n + p)
step_known zero n h = ap (λ (k : ℕ). Some k) (omega arith)
step_known (suc p) n h = ap (λ (k : ℕ). Some k) (omega arith)

step_none : (d : Digit) → number_step d None ≡ None
step_none Zero = refl
step_none One = refl
step_none X = refl
step_none Z = refl

step_unknown : (p q : ℕ) (o : Option ℕ) → (q ≡ 0 → o ≡ None) → number_step (digit_of p q) o ≡ None
step_unknown zero zero o k = rw (k refl) refl
step_unknown (suc p) zero o k = rw (k refl) refl
step_unknown zero (suc q) o k = refl
step_unknown (suc p) (suc q) o k = refl

pub number_known : (w a : ℕ) → a < 2 ^ w → number (digits w a 0) ≡ Some a
unfolding digits
number_known zero a h = ap (λ (n : ℕ). Some n) (omega arith)
number_known (suc w) a h =
    rw (number_known w (a / 2) (half_below w a h)) (step_known (a % 2) (a / 2) (omega arith) ∙ ap (λ (n : ℕ). Some n) (omega arith))

pub number_unknown : (w a b : ℕ) → b < 2 ^ w → (b ≡ 0 → ⊥) → number (digits w a b) ≡ None
unfolding digits
number_unknown zero a b h k = absurd (k (omega arith))
number_unknown (suc w) a b h k =
    step_unknown (a % 2) (b % 2) (number (digits w (a / 2) (b / 2)))
    (λ e. number_unknown w (a / 2) (b / 2) (half_below w b h) (λ z. k (omega arith)))

-- the number of a view
pub number_of_known : (w a b : ℕ) (xs : List Digit) → digits w a b ≡ xs → a < 2 ^ w → b ≡ 0 → number xs ≡ Some a
number_of_known w a b xs e h z = rw (← e, z) (number_known w a h)

pub number_of_unknown : (w a b : ℕ) (xs : List Digit) → digits w a b ≡ xs → b < 2 ^ w → (b ≡ 0 → ⊥) → number xs ≡ None
number_of_unknown w a b xs e h z = rw (← e) (number_unknown w a b h z)

-- ---- the same digit everywhere
pub digits_same : (w a b : ℕ) (z : Digit) → ((i : ℕ) → i < w → digit_of (bit_at a i) (bit_at b i) ≡ z) → digits w a b ≡ replicate w z
digits_same w a b z same = digits_from w a b (replicate w z) (length-replicate w z) (λ i d h. same i h ∙ sym (get_or-replicate w i z d h))

pub digits_all_zero : (w : ℕ) → digits w 0 0 ≡ replicate w Zero
digits_all_zero w = digits_same w 0 0 Zero (λ i h. rw (bit_at-zero i) refl)

pub digits_all_one : (w : ℕ) → digits w (2 ^ w - 1) 0 ≡ replicate w One
digits_all_one w = digits_same w (2 ^ w - 1) 0 One (λ i h. rw (bit_at-zero i, bit_at_ones w i h) refl)

pub digits_all_x : (w : ℕ) → digits w (2 ^ w - 1) (2 ^ w - 1) ≡ replicate w X
digits_all_x w = digits_same w (2 ^ w - 1) (2 ^ w - 1) X (λ i h. rw (bit_at_ones w i h) refl)

pub digits_all_z : (w : ℕ) → digits w 0 (2 ^ w - 1) ≡ replicate w Z
digits_all_z w = digits_same w 0 (2 ^ w - 1) Z (λ i h. rw (bit_at-zero i, bit_at_ones w i h) refl)

pub ruleset all_digits = (digits_all_zero, digits_all_one, digits_all_x, digits_all_z)

-- ---- what wraps at 128 bits
pub mod_wrap : (w n : ℕ) → w ≤ 128 → n % 2 ^ 128 % 2 ^ w ≡ n % 2 ^ w
mod_wrap w n h =
    let e : 128 - w + w ≡ 128 = omega arith in
    subst (λ (k : ℕ). n % 2 ^ k % 2 ^ w ≡ n % 2 ^ w) e (mod-mod-pow n (128 - w) w)

pub same_vector : (w m n : ℕ) → m % 2 ^ w ≡ n % 2 ^ w → vector w m ≡ vector w n
same_vector w m n e = sym (vector_mod w m) ∙ ap (vector w) e ∙ vector_mod w n

pub vector_wrap : (w n : ℕ) → w ≤ 128 → vector w (n % 2 ^ 128) ≡ vector w n
vector_wrap w n h = same_vector w (n % 2 ^ 128) n (mod_wrap w n h)

pow_128 : (w : ℕ) → w ≤ 128 → 2 ^ 128 ≡ 2 ^ (128 - w) * 2 ^ w
pow_128 w h = let e : 128 - w + w ≡ 128 = omega arith in ap (λ (k : ℕ). 2 ^ k) (sym e) ∙ pow-add 2 (128 - w) w

-- a difference modulo a multiple q * p of the modulus p is that modulo p, and q - 1 times p
add_whole_moduli : (q p m n : ℕ) → 0 < q → n < p → m + (q * p - n) ≡ m + (p - n) + (q - 1) * p
add_whole_moduli zero p m n h k = absurd (omega arith)
add_whole_moduli (suc q) p m n h k = let e : suc q - 1 ≡ q = omega arith in rw (suc-mul q p, e) (omega arith)

pub vector_wrap_sub : (w m n : ℕ) → w ≤ 128 → n < 2 ^ w → vector w ((m + (2 ^ 128 - n)) % 2 ^ 128) ≡ vector w (m + (2 ^ w - n))
vector_wrap_sub w m n h k =
    let e : 2 ^ 128 ≡ 2 ^ (128 - w) * 2 ^ w = pow_128 w h in
    let q : 0 < 2 ^ (128 - w) = pow_pos (128 - w) in
    let moduli : m + (2 ^ (128 - w) * 2 ^ w - n) ≡ m + (2 ^ w - n) + (2 ^ (128 - w) - 1) * 2 ^ w = add_whole_moduli (2 ^ (128 - w)) (2 ^ w) m n q k in
    same_vector w ((m + (2 ^ 128 - n)) % 2 ^ 128) (m + (2 ^ w - n))
    (mod_wrap w (m + (2 ^ 128 - n)) h ∙ ap (λ (r : ℕ). (m + (r - n)) % 2 ^ w) e ∙ ap (λ (r : ℕ). r % 2 ^ w) moduli ∙ add-mul-mod_self_right (m + (2 ^ w - n)) (2 ^ (128 - w) - 1) (2 ^ w))

-- the number of a vector that was made of a number
pub number_vector : (w n : ℕ) → number (vector w n) ≡ Some (n % 2 ^ w)
number_vector w n = rw (← digits_mod w n) (number_known w (n % 2 ^ w) (mod_below n (2 ^ w) (pow_pos w)))

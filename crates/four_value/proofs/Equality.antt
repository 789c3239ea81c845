-- When two vectors are equal, by their digits and by their planes.
use Rattle.std.proofs.Common.{◌≡◌, ℕ, ◌^◌, ◌<◌, Bool, true, false, List, [], ◌∷◌, length, map, refl, sym, ap, ◌∙◌, ⊎_elim, arith}
use Rattle.std.specs.Prelude.{◌||◌}
use Rattle.std.specs.List.{list_any}
use Rattle.std.proofs.lemmas.Bool.{false_from_ne_true, and_parts, cases_Bool}
use Rattle.four_value.specs.declared.Digit.{Digit}
use Rattle.four_value.specs.declared.Digit.TheVariants.{Zero, One, X, Z}
use Rattle.four_value.specs.Vector.{reduce, and_digit, xor_digit, not_digit, map2, is_unknown, has_unknown, digits_differ, any_differ, equal, same_digit, same_digits, case_equal}
use Rattle.four_value.specs.Planes.{digits, value_plane, unknown_plane}
use Rattle.four_value.specs.Back.{value_plane-digits, unknown_plane-digits}
use Rattle.four_value.proofs.Tables.{same_width}
use Rattle.four_value.proofs.Reductions.{is_zero, reduce_and_by}

-- ---- `==` is the fold of `&` over the digits of `~(x ^ y)`

-- such a digit is 0 exactly where known digits differ, and unknown exactly where one of them is
zero_where_apart : (d e : Digit) → is_zero (not_digit (xor_digit d e)) ≡ digits_differ d e
zero_where_apart Zero Zero = refl
zero_where_apart Zero _ = refl
zero_where_apart One Zero = refl
zero_where_apart One _ = refl
zero_where_apart X _ = refl
zero_where_apart Z _ = refl

unknown_where_open : (d e : Digit) → is_unknown (not_digit (xor_digit d e)) ≡ (is_unknown d || is_unknown e)
unknown_where_open Zero Zero = refl
unknown_where_open Zero _ = refl
unknown_where_open One Zero = refl
unknown_where_open One _ = refl
unknown_where_open X _ = refl
unknown_where_open Z _ = refl

or_regroup : (a b c d : Bool) → ((a || b) || (c || d)) ≡ ((a || c) || (b || d))
or_regroup true b c d = refl
or_regroup false true true d = refl
or_regroup false true false d = refl
or_regroup false false c d = refl

any_apart : (xs ys : List Digit) → list_any is_zero (map not_digit (map2 xor_digit xs ys)) ≡ any_differ xs ys
any_apart [] ys = refl
any_apart (x ∷ xs) [] = refl
any_apart (x ∷ xs) (y ∷ ys) = rw (zero_where_apart x y, any_apart xs ys) refl

any_open : (xs ys : List Digit) → length xs ≡ length ys → list_any is_unknown (map not_digit (map2 xor_digit xs ys)) ≡ (has_unknown xs || has_unknown ys)
any_open [] [] l = refl
any_open [] (y ∷ ys) l = absurd (omega arith)
any_open (x ∷ xs) [] l = absurd (omega arith)
any_open (x ∷ xs) (y ∷ ys) l =
    rw (unknown_where_open x y, any_open xs ys (omega arith)) (or_regroup (is_unknown x) (is_unknown y) (has_unknown xs) (has_unknown ys))

pub equal_is : (xs ys : List Digit) → length xs ≡ length ys → reduce and_digit One (map not_digit (map2 xor_digit xs ys)) ≡ equal xs ys
equal_is xs ys l = reduce_and_by (map not_digit (map2 xor_digit xs ys)) ∙ rw (any_apart xs ys, any_open xs ys l) refl

-- ---- `===` tells whether two lists of digits are one

same_self : (xs : List Digit) → same_digits xs xs ≡ true
same_self [] = refl
same_self (Zero ∷ xs) = same_self xs
same_self (One ∷ xs) = same_self xs
same_self (X ∷ xs) = same_self xs
same_self (Z ∷ xs) = same_self xs

same_digit_is : (d e : Digit) → same_digit d e ≡ true → d ≡ e
same_digit_is Zero Zero h = refl
same_digit_is Zero _ h = cc
same_digit_is One One h = refl
same_digit_is One _ h = cc
same_digit_is X X h = refl
same_digit_is X _ h = cc
same_digit_is Z Z h = refl
same_digit_is Z _ h = cc

same_digits_is : (xs ys : List Digit) → same_digits xs ys ≡ true → xs ≡ ys
same_digits_is [] [] h = refl
same_digits_is [] (y ∷ ys) h = cc
same_digits_is (x ∷ xs) [] h = cc
same_digits_is (x ∷ xs) (y ∷ ys) h =
    let both = and_parts (same_digit x y) (same_digits xs ys) h in
    let first = same_digit_is x y both.0 in
    let others = same_digits_is xs ys both.1 in
    cc

pub case_equal_same : (xs ys : List Digit) → xs ≡ ys → case_equal xs ys ≡ One
case_equal_same xs ys e = rw (← e, same_self xs) refl

pub case_equal_apart : (xs ys : List Digit) → (xs ≡ ys → ⊥) → case_equal xs ys ≡ Zero
case_equal_apart xs ys h = rw (false_from_ne_true (same_digits xs ys) (λ e. h (same_digits_is xs ys e))) refl

one_not_zero : One ≡ Zero → ⊥
one_not_zero h = cc

pub case_equal_one : (xs ys : List Digit) → case_equal xs ys ≡ One → xs ≡ ys
case_equal_one xs ys h =
    ⊎_elim
    (λ (t : same_digits xs ys ≡ true). same_digits_is xs ys t)
    (λ (f : same_digits xs ys ≡ false). let zero : case_equal xs ys ≡ Zero = rw f refl in absurd (one_not_zero (sym h ∙ zero)))
    (cases_Bool (same_digits xs ys))

pub ruleset case_equals = (case_equal_one, case_equal_same)

-- ---- two vectors are one exactly where their planes are

pub planes_same : (w v a b c d : ℕ) (xs ys : List Digit) → digits w a b ≡ xs → digits v c d ≡ ys → length xs ≡ length ys → a ≡ c → b ≡ d → xs ≡ ys
planes_same w v a b c d xs ys e f l p q = sym e ∙ rw (same_width w v a b c d xs ys e f l, p, q) f

pub planes_apart : (w v a b c d : ℕ) (xs ys : List Digit) → digits w a b ≡ xs → digits v c d ≡ ys → a < 2 ^ w → b < 2 ^ w → c < 2 ^ v → d < 2 ^ v → xs ≡ ys → (a ≡ c) × (b ≡ d)
planes_apart w v a b c d xs ys e f h k l m g =
    let values = sym (value_plane-digits w a b h) ∙ ap value_plane (e ∙ g ∙ sym f) ∙ value_plane-digits v c d l in
    let unknowns = sym (unknown_plane-digits w a b k) ∙ ap unknown_plane (e ∙ g ∙ sym f) ∙ unknown_plane-digits v c d m in
    (values, unknowns)

-- Two vectors are one exactly where their digits are the same.
use Rattle.std.proofs.Common.{◌≡◌, Bool, true, false, List, [], ◌∷◌, refl, sym}
use Rattle.std.proofs.lemmas.Bool.{false_from_ne_true, and_parts}
use mathlib.Core.Logic.{◌↔◌}
use Rattle.four_value.specs.declared.Digit.{Digit}
use Rattle.four_value.specs.declared.Digit.TheVariants.{Zero, One, X, Z}
use Rattle.four_value.specs.Vector.{same_digit, same_digits}

same_self : (xs : List Digit) → same_digits xs xs ≡ true
same_self [] = refl
same_self (Zero ∷ xs) = same_self xs
same_self (One ∷ xs) = same_self xs
same_self (X ∷ xs) = same_self xs
same_self (Z ∷ xs) = same_self xs

same_digit_is : (d e : Digit) → same_digit d e ≡ true → d ≡ e
same_digit_is Zero Zero h = refl
same_digit_is Zero _ h = cc
same_digit_is One One h = refl
same_digit_is One _ h = cc
same_digit_is X X h = refl
same_digit_is X _ h = cc
same_digit_is Z Z h = refl
same_digit_is Z _ h = cc

same_digits_is : (xs ys : List Digit) → same_digits xs ys ≡ true → xs ≡ ys
same_digits_is [] [] h = refl
same_digits_is [] (y ∷ ys) h = cc
same_digits_is (x ∷ xs) [] h = cc
same_digits_is (x ∷ xs) (y ∷ ys) h =
    let both = and_parts (same_digit x y) (same_digits xs ys) h in
    let first = same_digit_is x y both.0 in
    let others = same_digits_is xs ys both.1 in
    cc

false_not_true : false ≡ true → ⊥
false_not_true h = cc

pub same_by : (b : Bool) (xs ys : List Digit) → ((b ≡ true) ↔ (xs ≡ ys)) → b ≡ same_digits xs ys
same_by true xs ys h = let e : xs ≡ ys = h.0 refl in rw e (sym (same_self ys))
same_by false xs ys h = sym (false_from_ne_true (same_digits xs ys) (λ t. false_not_true (h.1 (same_digits_is xs ys t))))

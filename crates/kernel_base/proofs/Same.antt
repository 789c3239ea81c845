-- Two vectors are the same exactly where the test says so.
use Rattle.std.proofs.Common.{◌≡◌, Bool, true, false, List, [], ◌∷◌, refl, sym, subst, IsTrue, ◌↔◌}
use Rattle.std.proofs.lemmas.Bool.{false_from_ne_true, and_parts}
use Rattle.four_value.specs.declared.Digit.{Digit}
use Rattle.four_value.specs.declared.Digit.TheVariants.{Zero, One, X, Z}
use Rattle.four_value.specs.Vector.{same_digit, same_digits}

pub same_self : (xs : List Digit) → same_digits xs xs ≡ true
same_self [] = refl
same_self (Zero ∷ xs) = same_self xs
same_self (One ∷ xs) = same_self xs
same_self (X ∷ xs) = same_self xs
same_self (Z ∷ xs) = same_self xs

same_digit_is : (x y : Digit) → same_digit x y ≡ true → x ≡ y
same_digit_is Zero Zero h = refl
same_digit_is Zero One h = cc
same_digit_is Zero X h = cc
same_digit_is Zero Z h = cc
same_digit_is One Zero h = cc
same_digit_is One One h = refl
same_digit_is One X h = cc
same_digit_is One Z h = cc
same_digit_is X Zero h = cc
same_digit_is X One h = cc
same_digit_is X X h = refl
same_digit_is X Z h = cc
same_digit_is Z Zero h = cc
same_digit_is Z One h = cc
same_digit_is Z X h = cc
same_digit_is Z Z h = refl

same_digits_is : (xs ys : List Digit) → same_digits xs ys ≡ true → xs ≡ ys
same_digits_is [] [] h = refl
same_digits_is [] (y ∷ ys) h = cc
same_digits_is (x ∷ xs) [] h = cc
same_digits_is (x ∷ xs) (y ∷ ys) h =
    let both = and_parts (same_digit x y) (same_digits xs ys) h in
    let e = same_digit_is x y both.0 in
    let others = same_digits_is xs ys both.1 in
    cc

unsure : false ≡ true → ⊥
unsure h = cc

pub same_is : (xs ys : List Digit) (b : Bool) → (IsTrue b ↔ (xs ≡ ys)) → b ≡ same_digits xs ys
same_is xs ys true h = subst (λ (zs : List Digit). true ≡ same_digits xs zs) (h.0 refl) (sym (same_self xs))
same_is xs ys false h = sym (false_from_ne_true (same_digits xs ys) (λ e. unsure (h.1 (same_digits_is xs ys e))))

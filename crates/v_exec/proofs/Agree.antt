-- Labels of a plain `case` agree where all digits are the same.
use Rattle.std.proofs.Common.{◌≡◌, ◌&&◌, List, [], ◌∷◌, length, refl, ap, arith}
use Rattle.four_value.specs.declared.Digit.{Digit}
use Rattle.four_value.specs.Vector.{same_digit, same_digits}
use Rattle.gpi.specs.declared.acts.CaseKind.TheVariants.{Exact}
use Rattle.gpi.specs.Cases.{all_agree}

pub agrees_exactly : (xs ys : List Digit) → length xs ≡ length ys → all_agree Exact xs ys ≡ same_digits xs ys
agrees_exactly [] [] h = refl
agrees_exactly [] (y ∷ ys) h = absurd (omega arith)
agrees_exactly (x ∷ xs) [] h = absurd (omega arith)
agrees_exactly (x ∷ xs) (y ∷ ys) h = ap (λ b. same_digit x y && b) (agrees_exactly xs ys (omega arith))

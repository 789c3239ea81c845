-- A vector's digits are folded to a truth.
use Rattle.std.proofs.Common.{◌≡◌, ◌||◌, List, [], ◌∷◌, refl, ◌∙◌, ap}
use Rattle.std.specs.List.{list_any}
use Rattle.four_value.specs.declared.Digit.{Digit}
use Rattle.four_value.specs.declared.Digit.TheVariants.{Zero, One, X, Z}
use Rattle.four_value.specs.Vector.{or_digit, reduce}
use Rattle.py_value.specs.Truth.{is_one}

or_one : (d e : Digit) → is_one (or_digit d e) ≡ (is_one d || is_one e)
or_one Zero Zero = refl
or_one Zero One = refl
or_one Zero X = refl
or_one Zero Z = refl
or_one One e = refl
or_one X Zero = refl
or_one X One = refl
or_one X X = refl
or_one X Z = refl
or_one Z Zero = refl
or_one Z One = refl
or_one Z X = refl
or_one Z Z = refl

pub folded : (ds : List Digit) → is_one (reduce or_digit Zero ds) ≡ list_any is_one ds
folded [] = refl
folded (d ∷ ds) = or_one d (reduce or_digit Zero ds) ∙ ap (λ b. is_one d || b) (folded ds)

-- How two planes of bits stand for the digits of a vector, as `aval` and `bval` do (IEEE 1364-2005, clause 27.14).
use Rattle.std.specs.Prelude.{ℕ, zero, suc, ◌+◌, ◌*◌, ◌%◌, ◌/◌, ◌^◌, ◌<◌, ◌≤◌, List, [], ◌∷◌}
use Rattle.four_value.specs.Limits.{most_digits}
use Rattle.four_value.specs.declared.Digit.{Digit}
use Rattle.four_value.specs.declared.Digit.TheVariants.{Zero, One, X, Z}

-- the digit that a bit of each plane stands for
abbrev pub digit_of : ℕ → ℕ → Digit
digit_of zero zero = Zero
digit_of (suc _) zero = One
digit_of zero (suc _) = Z
digit_of (suc _) (suc _) = X

-- the digits of two planes, the least significant first
unfoldable pub digits : ℕ → ℕ → ℕ → List Digit
digits zero value unknown = []
digits (suc width) value unknown = digit_of (value % 2) (unknown % 2) ∷ digits width (value / 2) (unknown / 2)

-- a digit's bit in the plane of values
abbrev pub value_bit : Digit → ℕ
value_bit Zero = 0
value_bit One = 1
value_bit X = 1
value_bit Z = 0

-- a digit's bit in the plane of unknown digits
abbrev pub unknown_bit : Digit → ℕ
unknown_bit Zero = 0
unknown_bit One = 0
unknown_bit X = 1
unknown_bit Z = 1

-- the plane of values of some digits
unfoldable pub value_plane : List Digit → ℕ
value_plane [] = 0
value_plane (d ∷ ds) = value_bit d + 2 * value_plane ds

-- the plane of unknown digits of some digits
unfoldable pub unknown_plane : List Digit → ℕ
unknown_plane [] = 0
unknown_plane (d ∷ ds) = unknown_bit d + 2 * unknown_plane ds

-- planes of a vector: its width is 1 to 128, and neither plane has a bit at the width or above
pub record ArePlanes (width value unknown : ℕ) : Type 0 where
  pub low : 1 ≤ width
  pub high : width ≤ most_digits
  pub value_fits : value < 2 ^ width
  pub unknown_fits : unknown < 2 ^ width

-- A means of proof: vectors as rows write and show them, for the test program of elaboration.
use Rattle.std.specs.Prelude.{ℕ, ◌==◌, List, [], ◌∷◌, map, reverse, take, if◌then◌else◌}
use Rattle.four_value.specs.Limits.{most_digits}
use Rattle.four_value.specs.declared.Digit.{Digit}
use Rattle.four_value.specs.declared.Digit.TheVariants.{Zero, One, X, Z}

-- the digit that a byte stands for: `0`, `1` and `z`, and x for each other byte
abbrev pub digit_of : ℕ → Digit
digit_of byte = if byte == 48 then Zero else (if byte == 49 then One else (if byte == 122 then Z else X))

-- the vector of digits, the highest first: one x where there is none
abbrev pub short_vector : List ℕ → List Digit
short_vector [] = X ∷ []
short_vector (highest ∷ rest) = reverse (map digit_of (highest ∷ rest))

-- the vector of the digits of a text: where it has too many, of the first ones
abbrev pub vector_of : List ℕ → List Digit
vector_of text = short_vector (take most_digits text)

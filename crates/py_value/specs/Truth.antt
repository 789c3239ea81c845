-- Which values count as true where a condition is asked (the language reference, 6.11).
use Rattle.std.specs.Prelude.{ℕ, zero, suc, Bool, true, false, List, [], ◌∷◌, ℤ, pos, negsuc}
use Rattle.std.specs.List.{list_any}
use Rattle.four_value.specs.declared.Digit.{Digit}
use Rattle.four_value.specs.declared.Digit.TheVariants.{One}
use Rattle.py_value.specs.declared.value.Value.{Value}
use Rattle.py_value.specs.declared.value.Value.TheVariants.{Absent, Truth, Whole, Text, Vector}

abbrev pub is_one : Digit → Bool
is_one One = true
is_one _ = false

abbrev pub is_some_byte : List ℕ → Bool
is_some_byte [] = false
is_some_byte (b ∷ bs) = true

abbrev pub is_nonzero : ℤ → Bool
is_nonzero (pos zero) = false
is_nonzero (pos (suc n)) = true
is_nonzero (negsuc n) = true

-- None is false, numbers and texts are false where they are 0 and empty, a vector is true where a digit is 1, whatever the
-- others are, and all else is true
abbrev pub truth : Value → Bool
truth Absent = false
truth (Truth b) = b
truth (Whole z) = is_nonzero z
truth (Text bs) = is_some_byte bs
truth (Vector ds) = list_any is_one ds
truth _ = true

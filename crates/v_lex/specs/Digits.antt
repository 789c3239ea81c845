-- The letters of bases, and the bits of one written digit (IEEE 1364-2005, clause 3.5.1).
use Rattle.std.specs.Prelude.{ℕ, ◌-◌, ◌^◌, nat_lt, nat_le, ◌==◌, ◌||◌, ◌&&◌, List, [], ◌∷◌, replicate, Option, Some, None, if◌then◌else◌}
use Rattle.four_value.specs.declared.Digit.{Digit}
use Rattle.four_value.specs.declared.Digit.TheVariants.{Zero, X, Z}
use Rattle.four_value.specs.Vector.{vector}
use Rattle.v_lex.specs.declared.base.Base.{Base}
use Rattle.v_lex.specs.declared.base.Base.TheVariants.{Binary, Octal, Decimal, Hexadecimal}

-- the base that a letter names, in either case
abbrev pub base_of : ℕ → Option Base
base_of b =
    if (b == 98) || (b == 66) then Some Binary
    else (if (b == 111) || (b == 79) then Some Octal
    else (if (b == 100) || (b == 68) then Some Decimal else (if (b == 104) || (b == 72) then Some Hexadecimal else None)))

-- how many bits one written digit has
abbrev pub bits_of : Base → ℕ
bits_of Binary = 1
bits_of Octal = 3
bits_of Decimal = 0
bits_of Hexadecimal = 4

-- the digit that x, z and ? stand for
abbrev pub unknown_of : ℕ → Option Digit
unknown_of b = if (b == 120) || (b == 88) then Some X else (if (b == 122) || (b == 90) || (b == 63) then Some Z else None)

-- the value of a digit up to f, and 16 for any other byte
abbrev pub hexadecimal_of : ℕ → ℕ
hexadecimal_of b =
    if nat_le 48 b && nat_le b 57 then b - 48
    else (if nat_le 97 b && nat_le b 102 then b - 87 else (if nat_le 65 b && nat_le b 70 then b - 55 else 16))

abbrev pub known_digits : ℕ → ℕ → Option (List Digit)
known_digits bits n = if nat_lt n (2 ^ bits) then Some (vector bits n) else None

abbrev pub unknown_or_known : ℕ → ℕ → Option Digit → Option (List Digit)
unknown_or_known bits b (Some d) = Some (replicate bits d)
unknown_or_known bits b None = known_digits bits (hexadecimal_of b)

-- the bits of one written digit, lowest first
unfoldable pub digits_of : ℕ → ℕ → Option (List Digit)
digits_of bits b = unknown_or_known bits b (unknown_of b)

-- what missing high digits are: x or z where the highest written digit is x or z, else 0
abbrev pub fill_or : Option Digit → Digit
fill_or (Some d) = d
fill_or None = Zero

abbrev pub fill_of : List ℕ → Digit
fill_of [] = Zero
fill_of (b ∷ bs) = fill_or (unknown_of b)

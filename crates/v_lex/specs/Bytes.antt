-- The classes of bytes that tokens are made of, and how many of a class stand at the front of a text (IEEE 1364-2005, clause 3).
use Rattle.std.specs.Prelude.{ℕ, Bool, not, nat_le, ◌==◌, ◌||◌, ◌&&◌, List}
use Rattle.std.specs.List.{prefix_len}
use Rattle.v_lex.specs.declared.bytes.ByteClass.{ByteClass}
use Rattle.v_lex.specs.declared.bytes.ByteClass.TheVariants.{Separator, Digit, Decimal, Name, Written, Line, Text}

-- space, tab, line feed, carriage return, form feed
abbrev pub is_separator : ℕ → Bool
is_separator b = (b == 32) || (b == 9) || (b == 10) || (b == 13) || (b == 12)

-- 0 to 9
abbrev pub is_digit : ℕ → Bool
is_digit b = nat_le 48 b && nat_le b 57

-- A to Z, a to z
abbrev pub is_letter : ℕ → Bool
is_letter b = (nat_le 65 b && nat_le b 90) || (nat_le 97 b && nat_le b 122)

-- a letter or _
abbrev pub is_name_start : ℕ → Bool
is_name_start b = is_letter b || (b == 95)

-- letters, digits, _ and $
abbrev pub is_name_byte : ℕ → Bool
is_name_byte b = is_letter b || is_digit b || (b == 95) || (b == 36)

-- 0 to 9, a to f, A to F, x, X, z, Z, ? and _
abbrev pub is_written : ℕ → Bool
is_written b =
    is_digit b || (nat_le 97 b && nat_le b 102) || (nat_le 65 b && nat_le b 70) || (b == 120) || (b == 88) || (b == 122) || (b == 90)
    || (b == 63) || (b == 95)

abbrev pub is_in : ByteClass → ℕ → Bool
is_in Separator b = is_separator b
is_in Digit b = is_digit b
is_in Decimal b = is_digit b || (b == 95)
is_in Name b = is_name_byte b
is_in Written b = is_written b
is_in Line b = not (b == 10)
is_in Text b = not (b == 10) && not (b == 34)

-- how many bytes of the class stand at the front, before the first that isn't of it
unfoldable pub run : ByteClass → List ℕ → ℕ
run c text = prefix_len (is_in c) text

-- A means of proof: the parts of a row, and what they say, for the test programs that read rows.
use Rattle.std.specs.Prelude.{ℕ, zero, suc, ◌+◌, ◌-◌, ◌*◌, ◌^◌, ◌%◌, ◌==◌, Bool, List, [], ◌∷◌, if◌then◌else◌, nat_lt, fold, min}
use Rattle.std.specs.List.{before_first, after_first}

-- whether a byte is this one
abbrev pub is_byte : ℕ → ℕ → Bool
is_byte mark byte = byte == mark

-- what stands before the first such byte, all where there is none
abbrev pub front_of : ℕ → List ℕ → List ℕ
front_of mark bytes = before_first (is_byte mark) bytes

-- what stands behind the first such byte, nothing where there is none
abbrev pub behind : ℕ → List ℕ → List ℕ
behind mark bytes = after_first (is_byte mark) bytes

-- what a row has from part i on; its parts stand between tabs
unfoldable pub from_part : ℕ → List ℕ → List ℕ
from_part zero row = row
from_part (suc i) row = behind 9 (from_part i row)

-- part i of a row, an empty one where it has fewer
abbrev pub part_at : ℕ → List ℕ → List ℕ
part_at i row = front_of 9 (from_part i row)

-- the value of a hexadecimal digit in lower case
abbrev pub digit : ℕ → ℕ
digit byte = (if nat_lt byte 97 then byte - 48 else byte - 87) % 16

-- the bytes that a part says: a backslash stands before two hexadecimal digits of one, and is the end where two digits are missing
unfoldable mutual
  pub written : List ℕ → List ℕ
  written [] = []
  written (byte ∷ rest) = if byte == 92 then escaped rest else byte ∷ written rest

  pub escaped : List ℕ → List ℕ
  escaped (high ∷ low ∷ rest) = (16 * digit high + digit low) ∷ written rest
  escaped (high ∷ []) = []
  escaped [] = []

-- the largest number of 64 bits
abbrev pub largest : ℕ
largest = 2 ^ 64 - 1

-- a number with one more decimal digit behind it
abbrev pub with_digit : ℕ → ℕ → ℕ
with_digit number byte = number * 10 + (byte - 48)

-- the number that decimal digits say, the largest of 64 bits where it is beyond
abbrev pub decimal : List ℕ → ℕ
decimal digits = min (fold with_digit 0 digits) largest

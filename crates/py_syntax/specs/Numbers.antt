-- Numbers (the language reference, 2.4.4 and 2.4.5).
use Rattle.std.specs.Prelude.{ℕ, Bool, true, false, ◌&&◌, not, ◌+◌, ◌-◌, ◌*◌, ◌^◌, ◌==◌, nat_le, nat_lt, List, [], ◌∷◌, drop, slice_index, Option, None, Some, if◌then◌else◌}
use Rattle.py_syntax.specs.Bytes.{is_digit}

-- the value of a digit, or 16 where a byte is none
abbrev pub digit_value : ℕ → ℕ
digit_value b =
    if is_digit b then b - 48
    else (if nat_le 97 b && nat_le b 102 then b - 87
    else (if nat_le 65 b && nat_le b 70 then b - 55 else 16))

-- The number that digits of a base go on to from a value, with `_` only between two digits. Whether a digit stands before.
unfoldable pub digits_from : ℕ → Bool → ℕ → List ℕ → Option ℕ
digits_from base after_digit value [] = if after_digit then Some value else None
digits_from base after_digit value (b ∷ bs) =
    if b == 95 then (if after_digit then digits_from base false value bs else None)
    else (if nat_lt (digit_value b) base then digits_from base true (value * base + digit_value b) bs else None)

-- the base that `0x`, `0o` or `0b` says, else 10
abbrev pub base_of : List ℕ → ℕ
base_of word =
    if slice_index word 0 == 48
    then (if slice_index word 1 == 120 then 16 else (if slice_index word 1 == 111 then 8 else (if slice_index word 1 == 98 then 2 else 10)))
    else 10

abbrev pub digits_of : List ℕ → List ℕ
digits_of word = if base_of word == 10 then word else drop 2 word

-- at most 2^127 - 1; a decimal number that isn't 0 doesn't begin with the digit 0
abbrev pub allowed : List ℕ → Option ℕ → Option ℕ
allowed word None = None
allowed word (Some n) =
    if nat_lt n (2 ^ 127) && not ((base_of word == 10) && (slice_index word 0 == 48) && not (n == 0)) then Some n else None

-- the number that a word is
unfoldable pub number_of : List ℕ → Option ℕ
number_of word = allowed word (digits_from (base_of word) false 0 (digits_of word))

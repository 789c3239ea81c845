-- Whole numbers, and what Python's operators make of them (the language reference, 6.6 to 6.9).
use Rattle.std.specs.Prelude.{ℕ, suc, ◌-◌, ◌^◌, ◌==◌, nat_lt, Bool, true, false, not, ◌&&◌, if◌then◌else◌, Option, Some, None, ℤ, pos, negsuc, ◌*ℤ◌, neg_ℤ, int_lt, int_le, unsigned_abs}
use Rattle.std.specs.Int.{int_div_euclid, int_rem_euclid}
use Rattle.py_value.specs.declared.integer.integer.Integer.{Integer}

-- a number by its sign and its absolute value
abbrev pub signed : Bool → ℕ → ℤ
signed true n = neg_ℤ (pos n)
signed false n = pos n

abbrev pub number : Integer → ℤ
number i = signed i.negative i.size

abbrev pub truth_number : Bool → ℤ
truth_number true = pos 1
truth_number false = pos 0

-- whether a value can hold a number: from -2^127 to 2^127 - 1
abbrev pub is_whole : ℤ → Bool
is_whole z = int_le (negsuc (2 ^ 127 - 1)) z && int_le z (pos (2 ^ 127 - 1))

-- a result, where a value can hold it
unfoldable pub held : ℤ → Option ℤ
held z = if is_whole z then Some z else None

abbrev pub is_zero : ℤ → Bool
is_zero (pos n) = n == 0
is_zero (negsuc n) = false

abbrev pub is_negative : ℤ → Bool
is_negative z = int_lt z (pos 0)

abbrev pub same_number : ℤ → ℤ → Bool
same_number (pos a) (pos b) = a == b
same_number (negsuc a) (negsuc b) = a == b
same_number (pos a) (negsuc b) = false
same_number (negsuc a) (pos b) = false

-- the natural number that a number is
abbrev pub natural : ℤ → Option ℕ
natural (pos n) = Some n
natural (negsuc n) = None

-- ---- division; the divisor isn't 0

-- the quotient, rounded down
abbrev pub floor_quotient : ℤ → ℤ → ℤ
floor_quotient a (pos b) = int_div_euclid a (pos b)
floor_quotient a (negsuc b) = int_div_euclid (neg_ℤ a) (pos (suc b))

-- what is left then, with the sign of the divisor
abbrev pub floor_rest : ℤ → ℤ → ℤ
floor_rest a (pos b) = int_rem_euclid a (pos b)
floor_rest a (negsuc b) = neg_ℤ (int_rem_euclid (neg_ℤ a) (pos (suc b)))

-- ---- two's complement: the lowest 128 bits, and nothing but the sign above them

abbrev pub low_bits : ℤ → ℕ
low_bits z = unsigned_abs (int_rem_euclid z (pos (2 ^ 128)))

abbrev pub of_bits : Bool → ℕ → ℤ
of_bits true low = negsuc (2 ^ 128 - suc low)
of_bits false low = pos low

-- whether one of two is true, and not both
abbrev pub differ : Bool → Bool → Bool
differ true b = not b
differ false b = b

-- the number whose lowest bits f makes, and whose sign g makes
abbrev pub by_bits : (ℕ → ℕ → ℕ) → (Bool → Bool → Bool) → ℤ → ℤ → ℤ
by_bits f g a b = of_bits (g (is_negative a) (is_negative b)) (f (low_bits a) (low_bits b))

-- ---- shifts

-- a number other than 0 isn't shifted by more than 127
abbrev pub held_shift : ℤ → ℕ → Option ℤ
held_shift z n = if is_zero z then Some (pos 0) else (if nat_lt 127 n then None else held (z *ℤ pos (2 ^ n)))

-- rounded down
abbrev pub shifted_right : ℤ → ℕ → ℤ
shifted_right z n = floor_quotient z (pos (2 ^ n))

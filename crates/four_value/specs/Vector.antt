-- The meaning of four-valued vectors: lists of digits, the least significant first.
-- Clauses are those of IEEE 1364-2005.
use Rattle.std.specs.Prelude.{ℕ, zero, suc, ◌+◌, ◌*◌, ◌%◌, ◌/◌, ◌^◌, ◌-◌, List, [], ◌∷◌, ◌++◌, length, take, drop, map, reverse, replicate, Option, Some, None, Bool, true, false, ◌&&◌, ◌||◌, nat_lt, slice_index_or, if◌then◌else◌}
use Rattle.std.specs.List.{list_any}
use Rattle.four_value.specs.Limits.{most_digits}
use Rattle.four_value.specs.declared.Digit.{Digit}
use Rattle.four_value.specs.declared.Digit.TheVariants.{Zero, One, X, Z}
use Rattle.four_value.specs.declared.edges.Edge.{Edge}
use Rattle.four_value.specs.declared.edges.Edge.TheVariants.{Pos, Neg, None as NoEdge}

-- ---- digits: the tables of clauses 5.1.10 and 5.1.13

-- the binary AND of two digits
abbrev pub and_digit : Digit → Digit → Digit
and_digit Zero _ = Zero
and_digit One Zero = Zero
and_digit One One = One
and_digit One _ = X
and_digit _ Zero = Zero
and_digit _ _ = X

-- the binary OR of two digits
abbrev pub or_digit : Digit → Digit → Digit
or_digit One _ = One
or_digit Zero One = One
or_digit Zero Zero = Zero
or_digit Zero _ = X
or_digit _ One = One
or_digit _ _ = X

-- the exclusive OR of two digits
abbrev pub xor_digit : Digit → Digit → Digit
xor_digit Zero Zero = Zero
xor_digit Zero One = One
xor_digit One Zero = One
xor_digit One One = Zero
xor_digit _ _ = X

-- the negation of a digit
abbrev pub not_digit : Digit → Digit
not_digit Zero = One
not_digit One = Zero
not_digit _ = X

-- a digit of `?:` under an unknown condition
abbrev pub merge_digit : Digit → Digit → Digit
merge_digit Zero Zero = Zero
merge_digit One One = One
merge_digit _ _ = X

-- whether a digit is x or z
abbrev pub is_unknown : Digit → Bool
is_unknown X = true
is_unknown Z = true
is_unknown _ = false

-- whether two digits are known and differ
abbrev pub digits_differ : Digit → Digit → Bool
digits_differ Zero One = true
digits_differ One Zero = true
digits_differ _ _ = false

-- whether two digits are the same, x and z included
abbrev pub same_digit : Digit → Digit → Bool
same_digit Zero Zero = true
same_digit One One = true
same_digit X X = true
same_digit Z Z = true
same_digit _ _ = false

-- ---- digit by digit, and over all digits (clause 5.1.11)

-- a table of two digits, applied at each place
abbrev pub map2 : (Digit → Digit → Digit) → List Digit → List Digit → List Digit
map2 f [] ys = []
map2 f (x ∷ xs) [] = []
map2 f (x ∷ xs) (y ∷ ys) = f x y ∷ map2 f xs ys

-- a table of two digits, folded over all digits
abbrev pub reduce : (Digit → Digit → Digit) → Digit → List Digit → Digit
reduce f start [] = start
reduce f start (d ∷ ds) = f d (reduce f start ds)

-- ---- numbers

-- the digit of a bit
abbrev pub bit_digit : ℕ → Digit
bit_digit zero = Zero
bit_digit (suc _) = One

-- the number n modulo 2 ^ width, as a vector
abbrev pub vector : ℕ → ℕ → List Digit
vector zero n = []
vector (suc width) n = bit_digit (n % 2) ∷ vector width (n / 2)

-- a number with one more digit below it
abbrev pub number_step : Digit → Option ℕ → Option ℕ
number_step Zero (Some n) = Some (2 * n)
number_step One (Some n) = Some (2 * n + 1)
number_step _ _ = None

-- the number of a vector, the sum of digit times 2 ^ place; none where a digit is x or z
abbrev pub number : List Digit → Option ℕ
number [] = Some 0
number (d ∷ ds) = number_step d (number ds)

-- every digit is x
abbrev pub all_x : ℕ → List Digit
all_x width = replicate width X

-- two numbers, where both are known
abbrev pub both : Option ℕ → Option ℕ → Option (ℕ × ℕ)
both (Some m) (Some n) = Some (m, n)
both (Some m) None = None
both None _ = None

-- the vector that f makes of two numbers; where one is unknown, all x
abbrev pub of_numbers : ℕ → (ℕ → ℕ → List Digit) → Option (ℕ × ℕ) → List Digit
of_numbers width f (Some (m, n)) = f m n
of_numbers width f None = all_x width

-- ---- arithmetic (clause 5.1.5)

abbrev pub arithmetic : (ℕ → ℕ → List Digit) → List Digit → List Digit → List Digit
arithmetic f xs ys = of_numbers (length xs) f (both (number xs) (number ys))

abbrev pub add : List Digit → List Digit → List Digit
add xs ys = arithmetic (λ m n. vector (length xs) (m + n)) xs ys

abbrev pub sub : List Digit → List Digit → List Digit
sub xs ys = arithmetic (λ m n. vector (length xs) (m + (2 ^ length xs - n))) xs ys

abbrev pub mul : List Digit → List Digit → List Digit
mul xs ys = arithmetic (λ m n. vector (length xs) (m * n)) xs ys

-- by zero: all x
abbrev pub div : List Digit → List Digit → List Digit
div xs ys = arithmetic (λ m n. if nat_lt 0 n then vector (length xs) (m / n) else all_x (length xs)) xs ys

-- by zero: all x
abbrev pub rem : List Digit → List Digit → List Digit
rem xs ys = arithmetic (λ m n. if nat_lt 0 n then vector (length xs) (m % n) else all_x (length xs)) xs ys

-- ---- comparisons (clauses 5.1.7 and 5.1.8)

-- whether the first number is below the second; x where one is unknown
abbrev pub less_numbers : Option (ℕ × ℕ) → Digit
less_numbers (Some (m, n)) = if nat_lt m n then One else Zero
less_numbers None = X

abbrev pub less : List Digit → List Digit → Digit
less xs ys = less_numbers (both (number xs) (number ys))

-- whether a digit is x or z
abbrev pub has_unknown : List Digit → Bool
has_unknown xs = list_any is_unknown xs

-- whether the digits of some place are known and differ
abbrev pub any_differ : List Digit → List Digit → Bool
any_differ [] ys = false
any_differ (x ∷ xs) [] = false
any_differ (x ∷ xs) (y ∷ ys) = digits_differ x y || any_differ xs ys

-- 0 where two known digits differ, else x where a digit is unknown, else 1
abbrev pub equal : List Digit → List Digit → Digit
equal xs ys = if any_differ xs ys then Zero else (if has_unknown xs || has_unknown ys then X else One)

-- whether all digits are the same
abbrev pub same_digits : List Digit → List Digit → Bool
same_digits [] [] = true
same_digits [] (y ∷ ys) = false
same_digits (x ∷ xs) [] = false
same_digits (x ∷ xs) (y ∷ ys) = same_digit x y && same_digits xs ys

abbrev pub case_equal : List Digit → List Digit → Digit
case_equal xs ys = if same_digits xs ys then One else Zero

-- ---- selects and widths (clauses 5.2.1, 5.5.2 and 5.6)

-- the digit at a place, x outside
abbrev pub digit_at : List Digit → ℕ → Digit
digit_at xs i = slice_index_or xs i X

-- the digits from a place upwards
abbrev pub slice : List Digit → ℕ → ℕ → List Digit
slice xs low width = take width (drop low xs)

-- zeros above, or the highest digits cut
abbrev pub resize : List Digit → ℕ → List Digit
resize xs width = take width (xs ++ replicate width Zero)

-- ---- shifts (clause 5.1.12)

abbrev pub shift_up : List Digit → ℕ → List Digit
shift_up xs n = take (length xs) (replicate n Zero ++ xs)

abbrev pub shift_down : List Digit → ℕ → List Digit
shift_down xs n = take (length xs) (drop n xs ++ replicate (length xs) Zero)

-- a shift by a count; where the count is unknown, all x
abbrev pub by_count : (List Digit → ℕ → List Digit) → List Digit → Option ℕ → List Digit
by_count shift xs (Some n) = shift xs n
by_count shift xs None = all_x (length xs)

abbrev pub shl : List Digit → List Digit → List Digit
shl xs count = by_count shift_up xs (number count)

abbrev pub shr : List Digit → List Digit → List Digit
shr xs count = by_count shift_down xs (number count)

-- ---- texts (clause 17.1.1.4) and edges (clause 9.7.2)

-- the ASCII byte of 0, 1, x or z
abbrev pub digit_byte : Digit → ℕ
digit_byte Zero = 48
digit_byte One = 49
digit_byte X = 120
digit_byte Z = 122

-- the digits, the most significant first
abbrev pub digit_letters : List Digit → List ℕ
digit_letters xs = map digit_byte (reverse xs)

-- and spaces behind them, for as many bytes as a vector may have digits
abbrev pub text : List Digit → List ℕ
text xs = digit_letters xs ++ replicate (most_digits - length xs) 32

-- what the change of a digit is to an event control
abbrev pub edge_of : Digit → Digit → Edge
edge_of Zero Zero = NoEdge
edge_of Zero _ = Pos
edge_of One One = NoEdge
edge_of One _ = Neg
edge_of _ One = Pos
edge_of _ Zero = Neg
edge_of _ _ = NoEdge

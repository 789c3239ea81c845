-- A means of proof: the value of a written number as the code finds it. `Spelling` says what it means.
use Rattle.std.specs.Prelude.{ℕ, ◌+◌, ◌-◌, ◌*◌, ◌^◌, Bool, false, not, nat_lt, nat_le, ◌==◌, ◌&&◌, List, [], ◌∷◌, ◌++◌, take, replicate}
use Rattle.std.specs.Prelude.{Option, Some, None, option_map, if◌then◌else◌}
use Rattle.std.specs.List.{list_all}
use Rattle.four_value.specs.declared.Digit.{Digit}
use Rattle.four_value.specs.Vector.{vector}
use Rattle.v_lex.specs.declared.base.Base.{Base}
use Rattle.v_lex.specs.declared.base.Base.TheVariants.{Decimal}
use Rattle.v_lex.specs.declared.bytes.ByteClass.TheVariants.{Decimal as decimals}
use Rattle.v_lex.specs.Bytes.{is_in}
use Rattle.v_lex.specs.Digits.{bits_of, unknown_of, digits_of, fill_of}

infixl 10 ◌>>=◌
abbrev pub ◌>>=◌ : {A B : Type 0} → Option A → (A → Option B) → Option B
(Some x) >>= f = f x
None >>= f = None

-- ---- base ten

-- the number n with one more low digit; an underscore adds none
abbrev pub decimal_step : ℕ → ℕ → ℕ
decimal_step n b = if b == 95 then n else 10 * n + (b - 48)

-- the number that digits and underscores write, behind digits that stand for n
unfoldable pub decimal_from : ℕ → List ℕ → ℕ
decimal_from n [] = n
decimal_from n (b ∷ bs) = decimal_from (decimal_step n b) bs

-- that number, where it is below 2 ^ 128
unfoldable pub decimal_of : List ℕ → Option ℕ
decimal_of bs = if nat_lt (decimal_from 0 bs) (2 ^ 128) then Some (decimal_from 0 bs) else None

-- ---- bases of a power of two

-- The bits of written digits, which stand from the highest on, below those that are read already.
unfoldable pub digits_below : ℕ → List Digit → List ℕ → Option (List Digit)
digits_below bits above [] = Some above
digits_below bits above (b ∷ bs) =
    if b == 95 then digits_below bits above bs else (digits_of bits b >>= λ ds. digits_below bits (ds ++ above) bs)

-- ---- the vector of a written number

-- the first byte is no underscore
abbrev pub begins_with_digit : List ℕ → Bool
begins_with_digit [] = false
begins_with_digit (b ∷ bs) = not (b == 95)

-- a single x, z or ?, behind which underscores may stand
abbrev pub lone_unknown : List ℕ → Option Digit
lone_unknown [] = None
lone_unknown (b ∷ bs) = if list_all (λ c. c == 95) bs then unknown_of b else None

abbrev pub decimal_vector : ℕ → List ℕ → Option Digit → Option (List Digit)
decimal_vector size bs (Some d) = Some (replicate size d)
decimal_vector size bs None = if list_all (is_in decimals) bs then (decimal_of bs >>= λ n. Some (vector size n)) else None

-- The digits of a size that written digits stand for: above the written ones stand missing ones, and what is past the size is cut.
abbrev pub vector_in : Base → ℕ → List ℕ → Option (List Digit)
vector_in Decimal size bs = decimal_vector size bs (lone_unknown bs)
vector_in base size bs = option_map (take size) (digits_below (bits_of base) (replicate size (fill_of bs)) bs)

unfoldable pub vector_of : Base → ℕ → List ℕ → Option (List Digit)
vector_of base size bs = if begins_with_digit bs then vector_in base size bs else None

-- the size that is written before the base: 1 to 128, and 32 where none is
abbrev pub within_size : ℕ → Option ℕ
within_size n = if nat_le 1 n && nat_le n 128 then Some n else None

unfoldable pub size_of : List ℕ → Option ℕ
size_of [] = Some 32
size_of (b ∷ bs) = decimal_of (b ∷ bs) >>= within_size

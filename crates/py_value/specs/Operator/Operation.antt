-- What operators do with values (the language reference, 6.6 to 6.11).
use Rattle.std.specs.Prelude.{ℕ, Bool, not, ◌&&◌, ◌||◌, if◌then◌else◌, Option, Ok, Err, ℤ, pos, negsuc, ◌+ℤ◌, ◌-ℤ◌, ◌*ℤ◌, neg_ℤ, int_lt, bit_and, bit_or, bit_xor}
use Rattle.py_value.specs.Integer.Integer.{held, held_shift, shifted_right, floor_quotient, floor_rest, by_bits, differ, is_zero, same_number}
use Rattle.py_syntax.specs.declared.fault_kind.FaultKind.TheVariants.{TypeError, ValueError, ZeroDivisionError}
use Rattle.py_syntax.specs.declared.expression.BinOp.{BinOp}
use Rattle.py_syntax.specs.declared.expression.BinOp.TheVariants as op
use Rattle.py_syntax.specs.declared.expression.UnOp.{UnOp}
use Rattle.py_syntax.specs.declared.expression.UnOp.TheVariants as unop
use Rattle.py_value.specs.Answer.{Answer, and_then}
use Rattle.py_value.specs.Truth.{truth}
use Rattle.py_value.specs.declared.value.Value.{Value}
use Rattle.py_value.specs.declared.value.Value.TheVariants.{Truth}
use Rattle.py_value.specs.Operator.Number.{Number, known, unknown, none, number_of, one_number, two_numbers, whole}
use Rattle.py_value.specs.Operator.Identity.{same_value}

-- ---- `==`: by number where both kinds have one, else as `is` does

abbrev pub same_or_equal : Number → Number → Bool → Answer Bool
same_or_equal none b same = Ok same
same_or_equal a none same = Ok same
same_or_equal unknown b same = Err ValueError
same_or_equal a unknown same = Err ValueError
same_or_equal (known a) (known b) same = Ok (same_number a b)

abbrev pub equal : Value → Value → Answer Bool
equal a b = same_or_equal (number_of a) (number_of b) (same_value a b)

-- ---- operators on numbers

abbrev pub divided : (ℤ → ℤ → ℤ) → ℤ → ℤ → Answer Value
divided f a b = if is_zero b then Err ZeroDivisionError else whole (held (f a b))

-- a shift, whose count isn't negative
abbrev pub shifted : (ℤ → ℕ → Option ℤ) → ℤ → ℤ → Answer Value
shifted f a (pos n) = whole (f a n)
shifted f a (negsuc n) = Err ValueError

abbrev pub arithmetic : BinOp → ℤ → ℤ → Answer Value
arithmetic op.Add a b = whole (held (a +ℤ b))
arithmetic op.Subtract a b = whole (held (a -ℤ b))
arithmetic op.Multiply a b = whole (held (a *ℤ b))
arithmetic op.FloorDivide a b = divided floor_quotient a b
arithmetic op.Modulo a b = divided floor_rest a b
arithmetic op.BitAnd a b = whole (held (by_bits bit_and ◌&&◌ a b))
arithmetic op.BitOr a b = whole (held (by_bits bit_or ◌||◌ a b))
arithmetic op.BitXor a b = whole (held (by_bits bit_xor differ a b))
arithmetic op.ShiftLeft a b = shifted held_shift a b
arithmetic op.ShiftRight a b = shifted (λ z n. held (shifted_right z n)) a b
arithmetic op.Less a b = Ok (Truth (int_lt a b))
arithmetic op.LessEqual a b = Ok (Truth (not (int_lt b a)))
arithmetic op.Greater a b = Ok (Truth (int_lt b a))
arithmetic op.GreaterEqual a b = Ok (Truth (not (int_lt a b)))
-- the others aren't on numbers alone
arithmetic _ a b = Err TypeError

-- ---- operators on values; a signal is a value like any other here

abbrev pub binary_value : BinOp → Value → Value → Answer Value
binary_value op.Equal a b = and_then (equal a b) (λ same. Ok (Truth same))
binary_value op.NotEqual a b = and_then (equal a b) (λ same. Ok (Truth (not same)))
binary_value op.Is a b = Ok (Truth (same_value a b))
binary_value op.IsNot a b = Ok (Truth (not (same_value a b)))
binary_value o a b = and_then (two_numbers a b) (λ p. arithmetic o p.0 p.1)

abbrev pub unary_value : UnOp → Value → Answer Value
unary_value unop.Not a = Ok (Truth (not (truth a)))
unary_value unop.Negative a = and_then (one_number a) (λ z. whole (held (neg_ℤ z)))
unary_value unop.Positive a = and_then (one_number a) (λ z. whole (held z))
unary_value unop.Invert a = and_then (one_number a) (λ z. whole (held (neg_ℤ z -ℤ pos 1)))

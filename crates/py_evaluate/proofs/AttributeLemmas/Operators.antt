-- What operators give names nothing of a design, so that each view knows it.
use Rattle.std.proofs.Common.{◌≡◌, Ok, Err}
use Rattle.std.specs.Prelude.{ℕ, ℤ, pos, negsuc, Option, ◌&&◌, ◌||◌, not, ◌+ℤ◌, ◌-ℤ◌, ◌*ℤ◌, bit_and, bit_or, bit_xor, IfOk}
use Rattle.py_syntax.specs.declared.expression.BinOp.{BinOp}
use Rattle.py_syntax.specs.declared.expression.BinOp.TheVariants as op
use Rattle.py_syntax.specs.declared.fault_kind.FaultKind.TheVariants.{ZeroDivisionError}
use Rattle.py_value.specs.Integer.Integer.{held, held_shift, shifted_right, floor_quotient, floor_rest, by_bits, differ, is_zero}
use Rattle.py_value.specs.Answer.{Answer}
use Rattle.py_value.specs.declared.value.Value.{Value}
use Rattle.py_value.specs.declared.value.Value.TheVariants as value
use Rattle.py_value.specs.Operator.Number.{two_numbers, whole}
use Rattle.py_value.specs.Operator.Operation.{equal, divided, shifted, arithmetic, binary_value}
use Rattle.py_evaluate.specs.Attribute.Knows.{Knows}
use Rattle.py_evaluate.specs.Attribute.Look.{View, beside, is_handle, compared}
use Rattle.py_evaluate.proofs.AttributeLemmas.Plain.{either, chained, whole_plain, answer_known}

divided_plain : (view : View) (f : ℤ → ℤ → ℤ) (a b : ℤ) → IfOk (divided f a b) (Knows view)
divided_plain view f a b = either view (is_zero b) (Err ZeroDivisionError) (whole (held (f a b))) tt (whole_plain view (held (f a b)))

shifted_plain : (view : View) (f : ℤ → ℕ → Option ℤ) (a b : ℤ) → IfOk (shifted f a b) (Knows view)
shifted_plain view f a (pos n) = whole_plain view (f a n)
shifted_plain view f a (negsuc n) = tt

arithmetic_plain : (view : View) (o : BinOp) (a b : ℤ) → IfOk (arithmetic o a b) (Knows view)
arithmetic_plain view op.Add a b = whole_plain view (held (a +ℤ b))
arithmetic_plain view op.Subtract a b = whole_plain view (held (a -ℤ b))
arithmetic_plain view op.Multiply a b = whole_plain view (held (a *ℤ b))
arithmetic_plain view op.FloorDivide a b = divided_plain view floor_quotient a b
arithmetic_plain view op.Modulo a b = divided_plain view floor_rest a b
arithmetic_plain view op.BitAnd a b = whole_plain view (held (by_bits bit_and ◌&&◌ a b))
arithmetic_plain view op.BitOr a b = whole_plain view (held (by_bits bit_or ◌||◌ a b))
arithmetic_plain view op.BitXor a b = whole_plain view (held (by_bits bit_xor differ a b))
arithmetic_plain view op.ShiftLeft a b = shifted_plain view held_shift a b
arithmetic_plain view op.ShiftRight a b = shifted_plain view (λ z n. held (shifted_right z n)) a b
arithmetic_plain view _ a b = tt

binary_plain : (view : View) (o : BinOp) (a b : Value) → IfOk (binary_value o a b) (Knows view)
binary_plain view op.Equal a b = chained view (equal a b) (λ same. Ok (value.Truth same)) (λ same. tt)
binary_plain view op.NotEqual a b = chained view (equal a b) (λ same. Ok (value.Truth (not same))) (λ same. tt)
binary_plain view op.Is a b = tt
binary_plain view op.IsNot a b = tt
binary_plain view o a b = chained view (two_numbers a b) (λ p. arithmetic o p.0 p.1) (λ p. arithmetic_plain view o p.0 p.1)

pub binary_known : (view : View) (o : BinOp) (a b : Value) (result : Answer Value) → result ≡ binary_value o a b → IfOk result (Knows view)
binary_known view o a b result e = answer_known view (binary_value o a b) result (binary_plain view o a b) e

pub compared_known : (view : View) (o : BinOp) (a b : Value) (result : Answer Value) → result ≡ compared view o a b → IfOk result (Knows view)
compared_known view o a b result e = binary_known view o (beside view (is_handle b) a) (beside view (is_handle a) b) result e

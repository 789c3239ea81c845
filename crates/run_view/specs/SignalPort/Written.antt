-- The digits that a signal gets where a value is written to it (cocotb 1.8, "Writing values").
use Rattle.std.specs.Prelude.{ℕ, ◌-◌, ◌^◌, ◌==◌, ◌&&◌, Bool, if◌then◌else◌, List, length, Ok, Err, ℤ, pos, neg_ℤ, int_le, unsigned_abs}
use Rattle.std.specs.Int.{int_rem_euclid}
use Rattle.four_value.specs.declared.Digit.{Digit}
use Rattle.four_value.specs.Vector.{vector}
use Rattle.py_syntax.specs.declared.fault_kind.FaultKind.TheVariants.{TypeError, ValueError, OverflowError}
use Rattle.py_value.specs.Integer.Integer.{truth_number}
use Rattle.py_value.specs.Answer.{Answer}
use Rattle.py_value.specs.declared.value.Value.{Value}
use Rattle.py_value.specs.declared.value.Value.TheVariants.{Truth, Whole, Vector}

-- from -2^(w-1) to 2^w - 1: what w digits say with a sign, or without one
abbrev pub fits_width : ℕ → ℤ → Bool
fits_width w z = int_le (neg_ℤ (pos (2 ^ (w - 1)))) z && int_le z (pos (2 ^ w - 1))

-- a number modulo 2^w
abbrev pub number_bits : ℕ → ℤ → Answer (List Digit)
number_bits w z = if fits_width w z then Ok (vector w (unsigned_abs (int_rem_euclid z (pos (2 ^ w))))) else Err OverflowError

-- a value that is written to a signal of w digits
abbrev pub written_bits : ℕ → Value → Answer (List Digit)
written_bits w (Truth b) = number_bits w (truth_number b)
written_bits w (Whole z) = number_bits w z
written_bits w (Vector ds) = if length ds == w then Ok ds else Err ValueError
written_bits w _ = Err TypeError

-- The numbers of values, and the results that a value can hold (the language reference, 3.2, "The standard type hierarchy").
use Rattle.std.specs.Prelude.{ℕ, Option, Some, None, Ok, Err, ℤ, pos}
use Rattle.four_value.specs.Vector.{number}
use Rattle.py_value.specs.Integer.Integer.{truth_number}
use Rattle.py_syntax.specs.declared.fault_kind.FaultKind.TheVariants.{TypeError, ValueError, OverflowError}
use Rattle.py_value.specs.Answer.{Answer}
use Rattle.py_value.specs.declared.value.Value.{Value}
use Rattle.py_value.specs.declared.value.Value.TheVariants.{Truth, Whole, Vector}

-- the number of a value; a vector with an x or z digit has an unknown one, and kinds other than these three have none
pub data Number : Type 0 where
  known : ℤ → Number
  unknown : Number
  none : Number

abbrev pub vector_number : Option ℕ → Number
vector_number (Some n) = known (pos n)
vector_number None = unknown

abbrev pub number_of : Value → Number
number_of (Truth b) = known (truth_number b)
number_of (Whole z) = known z
number_of (Vector ds) = vector_number (number ds)
number_of _ = none

abbrev pub the_number : Number → Answer ℤ
the_number (known z) = Ok z
the_number unknown = Err ValueError
the_number none = Err TypeError

-- the number of an operand
abbrev pub one_number : Value → Answer ℤ
one_number v = the_number (number_of v)

-- two operands: a kind without a number comes before an unknown digit
abbrev pub the_numbers : Number → Number → Answer (ℤ × ℤ)
the_numbers none b = Err TypeError
the_numbers a none = Err TypeError
the_numbers unknown b = Err ValueError
the_numbers a unknown = Err ValueError
the_numbers (known a) (known b) = Ok (a, b)

abbrev pub two_numbers : Value → Value → Answer (ℤ × ℤ)
two_numbers a b = the_numbers (number_of a) (number_of b)

-- a result that no value can hold is a fault
abbrev pub whole : Option ℤ → Answer Value
whole (Some z) = Ok (Whole z)
whole None = Err OverflowError

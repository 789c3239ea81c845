-- The operators, functions and methods of expressions: how they are spelled, and how tightly operators bind (the language reference, 6.17).
use Rattle.std.specs.Prelude.{ℕ, Bool, true, false, ◌||◌, ◌&&◌, ◌==◌, nat_lt, nat_le, List, [], ◌∷◌, Option, Some, None, find, codes, if◌then◌else◌}
use Rattle.std.specs.Str.{bytes_eq}
use Rattle.py_syntax.specs.declared.keyword.Keyword.TheVariants as keyword
use Rattle.py_syntax.specs.declared.operator.Operator.TheVariants as operator
use Rattle.py_syntax.specs.declared.token.Token.{Token}
use Rattle.py_syntax.specs.declared.token.Token.TheVariants as token
use Rattle.py_syntax.specs.declared.expression.UnOp.{UnOp}
use Rattle.py_syntax.specs.declared.expression.UnOp.TheVariants as unary
use Rattle.py_syntax.specs.declared.expression.BinOp.{BinOp}
use Rattle.py_syntax.specs.declared.expression.BinOp.TheVariants as binary
use Rattle.py_syntax.specs.declared.expression.BoolOp.TheVariants as bool
use Rattle.py_syntax.specs.declared.expression.Operation.{Operation}
use Rattle.py_syntax.specs.declared.expression.Operation.TheVariants as operation
use Rattle.py_syntax.specs.declared.expression.Function.{Function}
use Rattle.py_syntax.specs.declared.expression.Function.TheVariants as function
use Rattle.py_syntax.specs.declared.expression.Method.{Method}
use Rattle.py_syntax.specs.declared.expression.Method.TheVariants as method

-- 1 is the loosest: `or`, `and`, `not`, comparisons, `|`, `^`, `&`, shifts, sums, products, the other operators with one operand, primaries
abbrev pub binary_level : BinOp → ℕ
binary_level binary.Equal = 4
binary_level binary.NotEqual = 4
binary_level binary.Less = 4
binary_level binary.LessEqual = 4
binary_level binary.Greater = 4
binary_level binary.GreaterEqual = 4
binary_level binary.Is = 4
binary_level binary.IsNot = 4
binary_level binary.BitOr = 5
binary_level binary.BitXor = 6
binary_level binary.BitAnd = 7
binary_level binary.ShiftLeft = 8
binary_level binary.ShiftRight = 8
binary_level binary.Add = 9
binary_level binary.Subtract = 9
binary_level binary.Multiply = 10
binary_level binary.FloorDivide = 10
binary_level binary.Modulo = 10

abbrev pub level_of : Operation → ℕ
level_of (operation.Bool bool.Or) = 1
level_of (operation.Bool bool.And) = 2
level_of (operation.Binary op) = binary_level op

abbrev pub prefix_level : UnOp → ℕ
prefix_level unary.Not = 3
prefix_level unary.Negative = 11
prefix_level unary.Positive = 11
prefix_level unary.Invert = 11

-- How tightly the left operand binds at least: operators group to the left, but a comparison is no operand of a comparison.
abbrev pub left_level : Operation → ℕ
left_level op = if level_of op == 4 then 5 else level_of op

abbrev pub binary_tokens : BinOp → List Token
binary_tokens binary.Equal = token.Operator operator.Equal ∷ []
binary_tokens binary.NotEqual = token.Operator operator.NotEqual ∷ []
binary_tokens binary.Less = token.Operator operator.Less ∷ []
binary_tokens binary.LessEqual = token.Operator operator.LessEqual ∷ []
binary_tokens binary.Greater = token.Operator operator.Greater ∷ []
binary_tokens binary.GreaterEqual = token.Operator operator.GreaterEqual ∷ []
binary_tokens binary.Is = token.Keyword keyword.Is ∷ []
binary_tokens binary.IsNot = token.Keyword keyword.Is ∷ token.Keyword keyword.Not ∷ []
binary_tokens binary.BitOr = token.Operator operator.Or ∷ []
binary_tokens binary.BitXor = token.Operator operator.Xor ∷ []
binary_tokens binary.BitAnd = token.Operator operator.And ∷ []
binary_tokens binary.ShiftLeft = token.Operator operator.ShiftLeft ∷ []
binary_tokens binary.ShiftRight = token.Operator operator.ShiftRight ∷ []
binary_tokens binary.Add = token.Operator operator.Plus ∷ []
binary_tokens binary.Subtract = token.Operator operator.Minus ∷ []
binary_tokens binary.Multiply = token.Operator operator.Times ∷ []
binary_tokens binary.FloorDivide = token.Operator operator.FloorDivide ∷ []
binary_tokens binary.Modulo = token.Operator operator.Modulo ∷ []

abbrev pub operation_tokens : Operation → List Token
operation_tokens (operation.Bool bool.Or) = token.Keyword keyword.Or ∷ []
operation_tokens (operation.Bool bool.And) = token.Keyword keyword.And ∷ []
operation_tokens (operation.Binary op) = binary_tokens op

abbrev pub prefix_token : UnOp → Token
prefix_token unary.Not = token.Keyword keyword.Not
prefix_token unary.Negative = token.Operator operator.Minus
prefix_token unary.Positive = token.Operator operator.Plus
prefix_token unary.Invert = token.Operator operator.Invert

abbrev pub function_name : Function → List ℕ
function_name function.Int = codes "int"
function_name function.Str = codes "str"
function_name function.Bool = codes "bool"
function_name function.Len = codes "len"
function_name function.GetSimTime = codes "get_sim_time"
function_name function.Timer = codes "Timer"
function_name function.Edge = codes "Edge"
function_name function.RisingEdge = codes "RisingEdge"
function_name function.FallingEdge = codes "FallingEdge"
function_name function.ReadWrite = codes "ReadWrite"
function_name function.ReadOnly = codes "ReadOnly"
function_name function.NextTimeStep = codes "NextTimeStep"
function_name function.ClockCycles = codes "ClockCycles"
function_name function.Join = codes "Join"
function_name function.First = codes "First"
function_name function.Combine = codes "Combine"
function_name function.Clock = codes "Clock"

abbrev pub functions : List Function
functions = function.Int ∷ function.Str ∷ function.Bool ∷ function.Len ∷ function.GetSimTime ∷ function.Timer ∷ function.Edge ∷ function.RisingEdge ∷ function.FallingEdge ∷ function.ReadWrite ∷ function.ReadOnly ∷ function.NextTimeStep ∷ function.ClockCycles ∷ function.Join ∷ function.First ∷ function.Combine ∷ function.Clock ∷ []

-- the function of this name
unfoldable pub function_of : List ℕ → Option Function
function_of name = find (λ f. bytes_eq (function_name f) name) functions

-- how many arguments a call has at least
abbrev pub least_arguments : Function → ℕ
least_arguments function.GetSimTime = 0
least_arguments function.ReadWrite = 0
least_arguments function.ReadOnly = 0
least_arguments function.NextTimeStep = 0
least_arguments function.First = 0
least_arguments function.Combine = 0
least_arguments function.ClockCycles = 2
least_arguments function.Clock = 2
least_arguments _ = 1

-- the name of the argument after these, which may be left out
abbrev pub option_name : Function → Option (List ℕ)
option_name function.GetSimTime = Some (codes "units")
option_name function.Timer = Some (codes "units")
option_name function.Clock = Some (codes "units")
option_name function.ClockCycles = Some (codes "rising")
option_name _ = None

-- whether any number of arguments may follow
abbrev pub takes_any : Function → Bool
takes_any function.First = true
takes_any function.Combine = true
takes_any _ = false

abbrev pub is_some : Option (List ℕ) → Bool
is_some None = false
is_some (Some name) = true

-- whether a call may have an argument behind n others
abbrev pub takes_argument : Function → ℕ → Bool
takes_argument f n = nat_lt n (least_arguments f) || takes_any f || ((n == least_arguments f) && is_some (option_name f))

-- whether n arguments are enough
abbrev pub has_enough : Function → ℕ → Bool
has_enough f n = nat_le (least_arguments f) n

-- the name by which the argument behind n others may be given
abbrev pub name_at : Function → ℕ → Option (List ℕ)
name_at f n = if n == least_arguments f then option_name f else None

abbrev pub method_name : Method → List ℕ
method_name method.Wait = codes "wait"
method_name method.Acquire = codes "acquire"
method_name method.Join = codes "join"
method_name method.IsSet = codes "is_set"
method_name method.Done = codes "done"
method_name method.QSize = codes "qsize"
method_name method.Empty = codes "empty"
method_name method.Full = codes "full"

abbrev pub methods : List Method
methods = method.Wait ∷ method.Acquire ∷ method.Join ∷ method.IsSet ∷ method.Done ∷ method.QSize ∷ method.Empty ∷ method.Full ∷ []

-- the method of this name
unfoldable pub method_of : List ℕ → Option Method
method_of name = find (λ m. bytes_eq (method_name m) name) methods

-- The tables of operators, functions and methods, and the tokens that they stand for.
use Rattle.std.proofs.Common.{◌≡◌, ◌+◌, ◌<◌, ◌≤◌, List, ◌++◌, length, Some, None, refl, arith, ◌⊎◌, inl, inr}
use Rattle.py_syntax.specs.ExpressionTables.{level_of, left_level, prefix_level, operation_tokens, prefix_token, function_name, function_of, method_name, method_of}
use Rattle.py_syntax.specs.declared.token.Token.{Token}
use Rattle.py_syntax.specs.declared.expression.UnOp.{UnOp}
use Rattle.py_syntax.specs.declared.expression.UnOp.TheVariants as unary
use Rattle.py_syntax.specs.declared.expression.BinOp.TheVariants as binary
use Rattle.py_syntax.specs.declared.expression.BoolOp.TheVariants as bool
use Rattle.py_syntax.specs.declared.expression.Operation.{Operation}
use Rattle.py_syntax.specs.declared.expression.Operation.TheVariants as operation
use Rattle.py_syntax.specs.declared.expression.Function.{Function}
use Rattle.py_syntax.specs.declared.expression.Function.TheVariants as function
use Rattle.py_syntax.specs.declared.expression.Method.{Method}
use Rattle.py_syntax.specs.declared.expression.Method.TheVariants as method
use Rattle.py_expression.specs.Phrase.Marks.{after}
use Rattle.py_expression.specs.Tokens.{prefix_of, operation_at, after_not}

pub prefix_again : (op : UnOp) → prefix_of (prefix_token op) ≡ Some op
prefix_again unary.Not = refl
prefix_again unary.Negative = refl
prefix_again unary.Positive = refl
prefix_again unary.Invert = refl

pub function_again : (f : Function) → function_of (function_name f) ≡ Some f
unfolding function_of
function_again function.Int = refl
function_again function.Str = refl
function_again function.Bool = refl
function_again function.Len = refl
function_again function.GetSimTime = refl
function_again function.Timer = refl
function_again function.Edge = refl
function_again function.RisingEdge = refl
function_again function.FallingEdge = refl
function_again function.ReadWrite = refl
function_again function.ReadOnly = refl
function_again function.NextTimeStep = refl
function_again function.ClockCycles = refl
function_again function.Join = refl
function_again function.First = refl
function_again function.Combine = refl
function_again function.Clock = refl

pub method_again : (m : Method) → method_of (method_name m) ≡ Some m
unfolding method_of
method_again method.Wait = refl
method_again method.Acquire = refl
method_again method.Join = refl
method_again method.IsSet = refl
method_again method.Done = refl
method_again method.QSize = refl
method_again method.Empty = refl
method_again method.Full = refl

pub operation_again : (op : Operation) (ts : List Token) → (4 ≤ level_of op → after_not ts ≡ None) → operation_at (operation_tokens op ++ ts) ≡ Some (op, ts)
unfolding operation_at after
operation_again (operation.Bool bool.Or) ts h = refl
operation_again (operation.Bool bool.And) ts h = refl
operation_again (operation.Binary binary.Equal) ts h = refl
operation_again (operation.Binary binary.NotEqual) ts h = refl
operation_again (operation.Binary binary.Less) ts h = refl
operation_again (operation.Binary binary.LessEqual) ts h = refl
operation_again (operation.Binary binary.Greater) ts h = refl
operation_again (operation.Binary binary.GreaterEqual) ts h = refl
operation_again (operation.Binary binary.Is) ts h = rw (h (omega arith))
operation_again (operation.Binary binary.IsNot) ts h = refl
operation_again (operation.Binary binary.BitOr) ts h = refl
operation_again (operation.Binary binary.BitXor) ts h = refl
operation_again (operation.Binary binary.BitAnd) ts h = refl
operation_again (operation.Binary binary.ShiftLeft) ts h = refl
operation_again (operation.Binary binary.ShiftRight) ts h = refl
operation_again (operation.Binary binary.Add) ts h = refl
operation_again (operation.Binary binary.Subtract) ts h = refl
operation_again (operation.Binary binary.Multiply) ts h = refl
operation_again (operation.Binary binary.FloorDivide) ts h = refl
operation_again (operation.Binary binary.Modulo) ts h = refl

pub level_below : (op : Operation) → (1 ≤ level_of op) × (level_of op < 11)
level_below (operation.Bool bool.Or) = (omega arith, omega arith)
level_below (operation.Bool bool.And) = (omega arith, omega arith)
level_below (operation.Binary binary.Equal) = (omega arith, omega arith)
level_below (operation.Binary binary.NotEqual) = (omega arith, omega arith)
level_below (operation.Binary binary.Less) = (omega arith, omega arith)
level_below (operation.Binary binary.LessEqual) = (omega arith, omega arith)
level_below (operation.Binary binary.Greater) = (omega arith, omega arith)
level_below (operation.Binary binary.GreaterEqual) = (omega arith, omega arith)
level_below (operation.Binary binary.Is) = (omega arith, omega arith)
level_below (operation.Binary binary.IsNot) = (omega arith, omega arith)
level_below (operation.Binary binary.BitOr) = (omega arith, omega arith)
level_below (operation.Binary binary.BitXor) = (omega arith, omega arith)
level_below (operation.Binary binary.BitAnd) = (omega arith, omega arith)
level_below (operation.Binary binary.ShiftLeft) = (omega arith, omega arith)
level_below (operation.Binary binary.ShiftRight) = (omega arith, omega arith)
level_below (operation.Binary binary.Add) = (omega arith, omega arith)
level_below (operation.Binary binary.Subtract) = (omega arith, omega arith)
level_below (operation.Binary binary.Multiply) = (omega arith, omega arith)
level_below (operation.Binary binary.FloorDivide) = (omega arith, omega arith)
level_below (operation.Binary binary.Modulo) = (omega arith, omega arith)

-- no operator binds as tightly as `not`
pub level_not_three : (op : Operation) → level_of op ≡ 3 → ⊥
level_not_three (operation.Bool bool.Or) e = omega arith
level_not_three (operation.Bool bool.And) e = omega arith
level_not_three (operation.Binary binary.Equal) e = omega arith
level_not_three (operation.Binary binary.NotEqual) e = omega arith
level_not_three (operation.Binary binary.Less) e = omega arith
level_not_three (operation.Binary binary.LessEqual) e = omega arith
level_not_three (operation.Binary binary.Greater) e = omega arith
level_not_three (operation.Binary binary.GreaterEqual) e = omega arith
level_not_three (operation.Binary binary.Is) e = omega arith
level_not_three (operation.Binary binary.IsNot) e = omega arith
level_not_three (operation.Binary binary.BitOr) e = omega arith
level_not_three (operation.Binary binary.BitXor) e = omega arith
level_not_three (operation.Binary binary.BitAnd) e = omega arith
level_not_three (operation.Binary binary.ShiftLeft) e = omega arith
level_not_three (operation.Binary binary.ShiftRight) e = omega arith
level_not_three (operation.Binary binary.Add) e = omega arith
level_not_three (operation.Binary binary.Subtract) e = omega arith
level_not_three (operation.Binary binary.Multiply) e = omega arith
level_not_three (operation.Binary binary.FloorDivide) e = omega arith
level_not_three (operation.Binary binary.Modulo) e = omega arith

pub left_at_least : (op : Operation) → level_of op ≤ left_level op
left_at_least op = grind arith

pub prefix_range : (op : UnOp) → (prefix_level op ≡ 3) ⊎ (prefix_level op ≡ 11)
prefix_range unary.Not = inl refl
prefix_range unary.Negative = inr refl
prefix_range unary.Positive = inr refl
prefix_range unary.Invert = inr refl

pub operation_length : (op : Operation) (ts : List Token) → length ts + 1 ≤ length (operation_tokens op ++ ts)
operation_length (operation.Bool bool.Or) ts = omega arith
operation_length (operation.Bool bool.And) ts = omega arith
operation_length (operation.Binary binary.Equal) ts = omega arith
operation_length (operation.Binary binary.NotEqual) ts = omega arith
operation_length (operation.Binary binary.Less) ts = omega arith
operation_length (operation.Binary binary.LessEqual) ts = omega arith
operation_length (operation.Binary binary.Greater) ts = omega arith
operation_length (operation.Binary binary.GreaterEqual) ts = omega arith
operation_length (operation.Binary binary.Is) ts = omega arith
operation_length (operation.Binary binary.IsNot) ts = omega arith
operation_length (operation.Binary binary.BitOr) ts = omega arith
operation_length (operation.Binary binary.BitXor) ts = omega arith
operation_length (operation.Binary binary.BitAnd) ts = omega arith
operation_length (operation.Binary binary.ShiftLeft) ts = omega arith
operation_length (operation.Binary binary.ShiftRight) ts = omega arith
operation_length (operation.Binary binary.Add) ts = omega arith
operation_length (operation.Binary binary.Subtract) ts = omega arith
operation_length (operation.Binary binary.Multiply) ts = omega arith
operation_length (operation.Binary binary.FloorDivide) ts = omega arith
operation_length (operation.Binary binary.Modulo) ts = omega arith

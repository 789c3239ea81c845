-- A means of proof: the tokens that decide how an expression goes on, for the proofs of Python's parser.
use Rattle.std.specs.Prelude.{ℕ, List, [], ◌∷◌, Option, Some, None}
use Rattle.py_syntax.specs.declared.keyword.Keyword.TheVariants as keyword
use Rattle.py_syntax.specs.declared.operator.Operator.{Operator}
use Rattle.py_syntax.specs.declared.operator.Operator.TheVariants as operator
use Rattle.py_syntax.specs.declared.token.Token.{Token}
use Rattle.py_syntax.specs.declared.token.Token.TheVariants as token
use Rattle.py_syntax.specs.declared.expression.UnOp.{UnOp}
use Rattle.py_syntax.specs.declared.expression.UnOp.TheVariants as unary
use Rattle.py_syntax.specs.declared.expression.BinOp.{BinOp}
use Rattle.py_syntax.specs.declared.expression.BinOp.TheVariants as binary
use Rattle.py_syntax.specs.declared.expression.BoolOp.TheVariants as bool
use Rattle.py_syntax.specs.declared.expression.Operation.{Operation}
use Rattle.py_syntax.specs.declared.expression.Operation.TheVariants as operation
use Rattle.py_expression.specs.Phrase.Marks.{after, after_open, after_close, after_dot, name_at}
use Rattle.py_expression.specs.declared.phrase.mark.Mark.TheVariants as mark

abbrev pub prefix_of : Token → Option UnOp
prefix_of (token.Keyword keyword.Not) = Some unary.Not
prefix_of (token.Operator operator.Minus) = Some unary.Negative
prefix_of (token.Operator operator.Plus) = Some unary.Positive
prefix_of (token.Operator operator.Invert) = Some unary.Invert
prefix_of _ = None

abbrev pub marked_operation : Operator → Option BinOp
marked_operation operator.Equal = Some binary.Equal
marked_operation operator.NotEqual = Some binary.NotEqual
marked_operation operator.Less = Some binary.Less
marked_operation operator.LessEqual = Some binary.LessEqual
marked_operation operator.Greater = Some binary.Greater
marked_operation operator.GreaterEqual = Some binary.GreaterEqual
marked_operation operator.Or = Some binary.BitOr
marked_operation operator.Xor = Some binary.BitXor
marked_operation operator.And = Some binary.BitAnd
marked_operation operator.ShiftLeft = Some binary.ShiftLeft
marked_operation operator.ShiftRight = Some binary.ShiftRight
marked_operation operator.Plus = Some binary.Add
marked_operation operator.Minus = Some binary.Subtract
marked_operation operator.Times = Some binary.Multiply
marked_operation operator.FloorDivide = Some binary.FloorDivide
marked_operation operator.Modulo = Some binary.Modulo
marked_operation _ = None

abbrev pub as_operation : Option BinOp → Option Operation
as_operation None = None
as_operation (Some op) = Some (operation.Binary op)

abbrev pub operation_of : Token → Option Operation
operation_of (token.Keyword keyword.Or) = Some (operation.Bool bool.Or)
operation_of (token.Keyword keyword.And) = Some (operation.Bool bool.And)
operation_of (token.Keyword keyword.Is) = Some (operation.Binary binary.Is)
operation_of (token.Operator o) = as_operation (marked_operation o)
operation_of _ = None

abbrev pub after_not : List Token → Option (List Token)
after_not ts = after (mark.Keyword keyword.Not) ts

-- `is` and `not` are one operator
abbrev pub with_not : Operation → List Token → Option (List Token) → Operation × List Token
with_not (operation.Binary binary.Is) ts (Some us) = (operation.Binary binary.IsNot, us)
with_not op ts _ = (op, ts)

abbrev pub operation_from : Option Operation → List Token → Option (Operation × List Token)
operation_from None ts = None
operation_from (Some op) ts = Some (with_not op ts (after_not ts))

-- the operator at the front, and the tokens after it
unfoldable pub operation_at : List Token → Option (Operation × List Token)
operation_at [] = None
operation_at (t ∷ ts) = operation_from (operation_of t) ts

-- behind a `}` of an f-string
abbrev pub after_format_close : List Token → Option (List Token)
after_format_close (token.FormatClose ∷ ts) = Some ts
after_format_close _ = None

abbrev pub after_close_in : Option (List Token) → Option (List Token)
after_close_in None = None
after_close_in (Some ts) = after_close ts

-- behind `()`
abbrev pub after_empty_call : List Token → Option (List Token)
after_empty_call ts = after_close_in (after_open ts)

abbrev pub name_behind : Option (List Token) → Option (List ℕ × List Token)
name_behind None = None
name_behind (Some ts) = name_at ts

-- the name after a dot
abbrev pub attribute_at : List Token → Option (List ℕ × List Token)
attribute_at ts = name_behind (after_dot ts)

-- A means of proof: brackets, operators and delimiters, found by their bytes; the longest one is taken.
use Rattle.std.specs.Prelude.{ℕ, ◌&&◌, ◌==◌, Option, None, Some, if◌then◌else◌}
use Rattle.py_syntax.specs.declared.operator.Operator.{Operator}
use Rattle.py_syntax.specs.declared.operator.Operator.TheVariants as operator
use Rattle.py_syntax.specs.declared.operator.Bracket.TheVariants.{Round, Square}
use Rattle.py_syntax.specs.declared.token.Token.{Token}
use Rattle.py_syntax.specs.declared.token.Token.TheVariants as token

-- `(`, `)`, `[`, `]`
abbrev pub bracket_of : ℕ → Option Token
bracket_of b =
    if b == 40 then Some (token.Open Round)
    else (if b == 41 then Some (token.Close Round)
    else (if b == 91 then Some (token.Open Square)
    else (if b == 93 then Some (token.Close Square) else None)))

-- one byte: , . : @ ~ = < > | ^ & + - * %
abbrev pub single : ℕ → Option Operator
single b =
    if b == 44 then Some operator.Comma
    else (if b == 46 then Some operator.Dot
    else (if b == 58 then Some operator.Colon
    else (if b == 64 then Some operator.At
    else (if b == 126 then Some operator.Invert
    else (if b == 61 then Some operator.Assign
    else (if b == 60 then Some operator.Less
    else (if b == 62 then Some operator.Greater
    else (if b == 124 then Some operator.Or
    else (if b == 94 then Some operator.Xor
    else (if b == 38 then Some operator.And
    else (if b == 43 then Some operator.Plus
    else (if b == 45 then Some operator.Minus
    else (if b == 42 then Some operator.Times
    else (if b == 37 then Some operator.Modulo else None))))))))))))))

-- with `=` behind it: == != <= >= |= ^= &= += -= *= %=
abbrev pub with_equals : ℕ → Option Operator
with_equals b =
    if b == 61 then Some operator.Equal
    else (if b == 33 then Some operator.NotEqual
    else (if b == 60 then Some operator.LessEqual
    else (if b == 62 then Some operator.GreaterEqual
    else (if b == 124 then Some operator.OrAssign
    else (if b == 94 then Some operator.XorAssign
    else (if b == 38 then Some operator.AndAssign
    else (if b == 43 then Some operator.PlusAssign
    else (if b == 45 then Some operator.MinusAssign
    else (if b == 42 then Some operator.TimesAssign
    else (if b == 37 then Some operator.ModuloAssign else None))))))))))

-- twice: << >> //
abbrev pub doubled : ℕ → Option Operator
doubled b =
    if b == 60 then Some operator.ShiftLeft
    else (if b == 62 then Some operator.ShiftRight
    else (if b == 47 then Some operator.FloorDivide else None))

-- twice, with `=` behind it: <<= >>= //=
abbrev pub doubled_with_equals : ℕ → Option Operator
doubled_with_equals b =
    if b == 60 then Some operator.ShiftLeftAssign
    else (if b == 62 then Some operator.ShiftRightAssign
    else (if b == 47 then Some operator.FloorDivideAssign else None))

-- the operator, with this length, or else the other
abbrev pub or_shorter : ℕ → Option Operator → Option (Operator × ℕ) → Option (Operator × ℕ)
or_shorter n (Some op) shorter = Some (op, n)
or_shorter n None shorter = shorter

-- the longest operator at the front of a text that begins with these three bytes, and its length
unfoldable pub operator_at : ℕ → ℕ → ℕ → Option (Operator × ℕ)
operator_at a b c =
    or_shorter 3 (if (a == b) && (c == 61) then doubled_with_equals a else None)
    (or_shorter 2 (if a == b then doubled a else None)
    (or_shorter 2 (if b == 61 then with_equals a else None)
    (or_shorter 1 (single a) None)))

-- A means of proof: how logical lines and their tokens are shown, for the test program of Python's texts.
use Rattle.std.specs.Prelude.{ℕ, Bool, true, false, List, [], ◌++◌, codes}
use Rattle.std.specs.List.{flat_map, join_by}
use Rattle.std.specs.Fmt.{decimal}
use Rattle.py_syntax.specs.Keywords.{keyword_bytes}
use Rattle.py_syntax.specs.Line.{Line}
use Rattle.py_syntax.specs.declared.operator.Bracket.{Bracket}
use Rattle.py_syntax.specs.declared.operator.Bracket.TheVariants.{Round, Square}
use Rattle.py_syntax.specs.declared.operator.Operator.{Operator}
use Rattle.py_syntax.specs.declared.operator.Operator.TheVariants as operator
use Rattle.py_syntax.specs.declared.token.Token.{Token}
use Rattle.py_syntax.specs.declared.token.Token.TheVariants as token

-- an operator or a delimiter by its name
abbrev pub operator_name : Operator → List ℕ
operator_name operator.Comma = codes "Comma"
operator_name operator.Dot = codes "Dot"
operator_name operator.Colon = codes "Colon"
operator_name operator.At = codes "At"
operator_name operator.Invert = codes "Invert"
operator_name operator.Assign = codes "Assign"
operator_name operator.Less = codes "Less"
operator_name operator.Greater = codes "Greater"
operator_name operator.Or = codes "Or"
operator_name operator.Xor = codes "Xor"
operator_name operator.And = codes "And"
operator_name operator.Plus = codes "Plus"
operator_name operator.Minus = codes "Minus"
operator_name operator.Times = codes "Times"
operator_name operator.Modulo = codes "Modulo"
operator_name operator.Equal = codes "Equal"
operator_name operator.NotEqual = codes "NotEqual"
operator_name operator.LessEqual = codes "LessEqual"
operator_name operator.GreaterEqual = codes "GreaterEqual"
operator_name operator.ShiftLeft = codes "ShiftLeft"
operator_name operator.ShiftRight = codes "ShiftRight"
operator_name operator.FloorDivide = codes "FloorDivide"
operator_name operator.OrAssign = codes "OrAssign"
operator_name operator.XorAssign = codes "XorAssign"
operator_name operator.AndAssign = codes "AndAssign"
operator_name operator.PlusAssign = codes "PlusAssign"
operator_name operator.MinusAssign = codes "MinusAssign"
operator_name operator.TimesAssign = codes "TimesAssign"
operator_name operator.ModuloAssign = codes "ModuloAssign"
operator_name operator.ShiftLeftAssign = codes "ShiftLeftAssign"
operator_name operator.ShiftRightAssign = codes "ShiftRightAssign"
operator_name operator.FloorDivideAssign = codes "FloorDivideAssign"

abbrev pub opening_text : Bracket → List ℕ
opening_text Round = codes "("
opening_text Square = codes "["

abbrev pub closing_text : Bracket → List ℕ
closing_text Round = codes ")"
closing_text Square = codes "]"

-- Names and brackets stand as they are, reserved words behind `!`, numbers behind `#`, texts between quotes, operators by name, an
-- f-string from `f"` to `"f` with its own text between `'`, and `?` is what no form takes.
abbrev pub token_text : Token → List ℕ
token_text (token.Name name) = name
token_text (token.Keyword keyword) = codes "!" ++ keyword_bytes keyword
token_text (token.Number number) = codes "#" ++ decimal number
token_text (token.Text text) = codes "\"" ++ text ++ codes "\""
token_text (token.Open bracket) = opening_text bracket
token_text (token.Close bracket) = closing_text bracket
token_text (token.Operator operator) = operator_name operator
token_text token.FormatStart = codes "f\""
token_text (token.FormatText text) = codes "'" ++ text ++ codes "'"
token_text token.FormatOpen = codes "{"
token_text token.FormatClose = codes "}"
token_text token.FormatEnd = codes "\"f"
token_text token.Invalid = codes "?"

-- behind a blank
abbrev pub next_token : Token → List ℕ
next_token t = codes " " ++ token_text t

abbrev pub docstring_mark : Bool → List ℕ
docstring_mark true = codes " doc"
docstring_mark false = []

-- A line is its number, `:`, its indentation, ` doc` for a docstring, and its tokens, each behind a blank.
abbrev pub line_text : Line → List ℕ
line_text line =
    decimal line.number ++ codes ":" ++ decimal line.indentation ++ docstring_mark line.is_docstring ++ flat_map next_token line.tokens

-- what stands between two lines
abbrev pub between_lines : List ℕ
between_lines = codes "; "

-- a line behind another one
abbrev pub next_line : Line → List ℕ
next_line line = between_lines ++ line_text line

-- the lines, with `; ` between them
abbrev pub lines_text : List Line → List ℕ
lines_text lines = join_by line_text between_lines lines

-- where a line begins: its number, `:`, its indentation and `;`
abbrev pub start_text : Line → List ℕ
start_text line = decimal line.number ++ codes ":" ++ decimal line.indentation ++ codes ";"

-- The operators and marks of the grammar (IEEE 1364-2005, clause 3.4): the longest that stands at a place is taken.
use Rattle.std.specs.Prelude.{◌≡◌, true, ℕ, List, [], ◌∷◌, Option, nat_eq}
use Rattle.std.specs.List.{find, starts_with}
use lib.Chars.{codes}
use Rattle.v_syntax.specs.declared.mark.Mark.{Mark}
use Rattle.v_syntax.specs.declared.mark.Mark.TheVariants.{CaseEqual, CaseUnequal, ArithmeticShiftLeft, ArithmeticShiftRight, LessOrEqual, GreaterOrEqual, Equal, Unequal, LogicalAnd, LogicalOr, ShiftLeft, ShiftRight, Nand, Nor, TildeCaret, CaretTilde, PlusColon, Hash, OpenParenthesis, CloseParenthesis, Semicolon, Comma, Assign, OpenBracket, CloseBracket, Colon, At, Star, Dot, OpenBrace, CloseBrace, Question, Bar, Caret, Ampersand, Less, Greater, Plus, Minus, Slash, Percent, Exclamation, Tilde}

abbrev pub mark_spelling : Mark → List ℕ
mark_spelling CaseEqual = codes "==="
mark_spelling CaseUnequal = codes "!=="
mark_spelling ArithmeticShiftLeft = codes "<<<"
mark_spelling ArithmeticShiftRight = codes ">>>"
mark_spelling LessOrEqual = codes "<="
mark_spelling GreaterOrEqual = codes ">="
mark_spelling Equal = codes "=="
mark_spelling Unequal = codes "!="
mark_spelling LogicalAnd = codes "&&"
mark_spelling LogicalOr = codes "||"
mark_spelling ShiftLeft = codes "<<"
mark_spelling ShiftRight = codes ">>"
mark_spelling Nand = codes "~&"
mark_spelling Nor = codes "~|"
mark_spelling TildeCaret = codes "~^"
mark_spelling CaretTilde = codes "^~"
mark_spelling PlusColon = codes "+:"
mark_spelling Hash = codes "#"
mark_spelling OpenParenthesis = codes "("
mark_spelling CloseParenthesis = codes ")"
mark_spelling Semicolon = codes ";"
mark_spelling Comma = codes ","
mark_spelling Assign = codes "="
mark_spelling OpenBracket = codes "["
mark_spelling CloseBracket = codes "]"
mark_spelling Colon = codes ":"
mark_spelling At = codes "@"
mark_spelling Star = codes "*"
mark_spelling Dot = codes "."
mark_spelling OpenBrace = codes "{"
mark_spelling CloseBrace = codes "}"
mark_spelling Question = codes "?"
mark_spelling Bar = codes "|"
mark_spelling Caret = codes "^"
mark_spelling Ampersand = codes "&"
mark_spelling Less = codes "<"
mark_spelling Greater = codes ">"
mark_spelling Plus = codes "+"
mark_spelling Minus = codes "-"
mark_spelling Slash = codes "/"
mark_spelling Percent = codes "%"
mark_spelling Exclamation = codes "!"
mark_spelling Tilde = codes "~"

-- every mark, those of more bytes first
abbrev pub marks : List Mark
marks = CaseEqual ∷ CaseUnequal ∷ ArithmeticShiftLeft ∷ ArithmeticShiftRight ∷ LessOrEqual ∷ GreaterOrEqual ∷ Equal ∷ Unequal ∷ LogicalAnd ∷ LogicalOr ∷ ShiftLeft ∷ ShiftRight ∷ Nand ∷ Nor ∷ TildeCaret ∷ CaretTilde ∷ PlusColon ∷ Hash ∷ OpenParenthesis ∷ CloseParenthesis ∷ Semicolon ∷ Comma ∷ Assign ∷ OpenBracket ∷ CloseBracket ∷ Colon ∷ At ∷ Star ∷ Dot ∷ OpenBrace ∷ CloseBrace ∷ Question ∷ Bar ∷ Caret ∷ Ampersand ∷ Less ∷ Greater ∷ Plus ∷ Minus ∷ Slash ∷ Percent ∷ Exclamation ∷ Tilde ∷ []

-- The longest mark that stands at the front of the text: the first in that list.
unfoldable pub mark_at : List ℕ → Option Mark
mark_at text = find (λ m. starts_with nat_eq text (mark_spelling m)) marks

-- the text begins with the mark
abbrev pub IsMarkAt : List ℕ → Mark → Type 0
IsMarkAt text m = starts_with nat_eq text (mark_spelling m) ≡ true

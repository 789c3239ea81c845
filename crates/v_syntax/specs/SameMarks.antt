-- A means of proof: one mark, or another, for the proofs of Verilog's parser.
use Rattle.std.specs.Prelude.{ℕ, Bool, nat_eq}
use Rattle.v_syntax.specs.declared.mark.Mark.{Mark}
use Rattle.v_syntax.specs.declared.mark.Mark.TheVariants.{CaseEqual, CaseUnequal, ArithmeticShiftLeft, ArithmeticShiftRight, LessOrEqual, GreaterOrEqual, Equal, Unequal, LogicalAnd, LogicalOr, ShiftLeft, ShiftRight, Nand, Nor, TildeCaret, CaretTilde, PlusColon, Hash, OpenParenthesis, CloseParenthesis, Semicolon, Comma, Assign, OpenBracket, CloseBracket, Colon, At, Star, Dot, OpenBrace, CloseBrace, Question, Bar, Caret, Ampersand, Less, Greater, Plus, Minus, Slash, Percent, Exclamation, Tilde}

-- the place of a mark among all
abbrev pub mark_number : Mark → ℕ
mark_number CaseEqual = 0
mark_number CaseUnequal = 1
mark_number ArithmeticShiftLeft = 2
mark_number ArithmeticShiftRight = 3
mark_number LessOrEqual = 4
mark_number GreaterOrEqual = 5
mark_number Equal = 6
mark_number Unequal = 7
mark_number LogicalAnd = 8
mark_number LogicalOr = 9
mark_number ShiftLeft = 10
mark_number ShiftRight = 11
mark_number Nand = 12
mark_number Nor = 13
mark_number TildeCaret = 14
mark_number CaretTilde = 15
mark_number PlusColon = 16
mark_number Hash = 17
mark_number OpenParenthesis = 18
mark_number CloseParenthesis = 19
mark_number Semicolon = 20
mark_number Comma = 21
mark_number Assign = 22
mark_number OpenBracket = 23
mark_number CloseBracket = 24
mark_number Colon = 25
mark_number At = 26
mark_number Star = 27
mark_number Dot = 28
mark_number OpenBrace = 29
mark_number CloseBrace = 30
mark_number Question = 31
mark_number Bar = 32
mark_number Caret = 33
mark_number Ampersand = 34
mark_number Less = 35
mark_number Greater = 36
mark_number Plus = 37
mark_number Minus = 38
mark_number Slash = 39
mark_number Percent = 40
mark_number Exclamation = 41
mark_number Tilde = 42

abbrev pub same_mark : Mark → Mark → Bool
same_mark m k = nat_eq (mark_number m) (mark_number k)

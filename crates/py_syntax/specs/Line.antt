-- A logical line (the language reference, 2.1.1).
use Rattle.std.specs.Prelude.{ℕ, Bool, List}
use Rattle.py_syntax.specs.declared.token.Token.{Token}
use Rattle.py_syntax.specs.declared.line_number.LineNumber.{LineNumber}

-- the physical line of that number
abbrev pub physical_line : ℕ → LineNumber
physical_line n = record { 0 = n }

-- how many spaces stand before its first token, the physical line on which that stands, whether it is one text alone, and its tokens
pub record Line : Type 0 where
  pub indentation : ℕ
  pub number : ℕ
  pub is_docstring : Bool
  pub tokens : List Token

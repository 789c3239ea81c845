-- A means of proof: a piece that lies within a text, for the proofs of Python's lexer.
use Rattle.std.specs.Prelude.{◌≡◌, ℕ, ◌<◌, ◌≤◌, false, List, length}
use Rattle.py_syntax.specs.Bytes.{is_brace}
use Rattle.py_syntax.specs.Places.{line_ends}
use Rattle.py_syntax.specs.declared.piece.Piece.{Piece}

-- it has at least one byte, no more than the text, and no more line feeds than bytes
pub record FitsIn (text : List ℕ) (p : Piece) (n : ℕ) : Type 0 where
  pub positive : 0 < n
  pub within : n ≤ length text
  pub lines : line_ends p ≤ n

-- an operator of two bytes has a second, one of three a third
pub record IsSpelled (b c n : ℕ) : Type 0 where
  pub positive : 0 < n
  pub short : n ≤ 3
  pub second : 2 ≤ n → 0 < b
  pub third : 3 ≤ n → 0 < c

-- a byte that is no line feed, no such quote and no brace
pub record IsLiteral (quote b : ℕ) : Type 0 where
  pub no_line_feed : (b ≡ 10) → ⊥
  pub no_quote : (b ≡ quote) → ⊥
  pub no_brace : is_brace b ≡ false

-- A place in a text, and how a piece moves it on (the language reference, 2.1).
use Rattle.std.specs.Prelude.{◌≡◌, ℕ, ◌+◌, Bool, true, false, ◌&&◌, ◌||◌, not, List, [], ◌∷◌, ◌++◌, length, take, slice_get, Option, None, Some, ◌-◌, if◌then◌else◌}
use Rattle.py_syntax.specs.Line.{physical_line}
use Rattle.py_syntax.specs.Bytes.{is_quote}
use Rattle.py_syntax.specs.declared.operator.Bracket.{Bracket}
use Rattle.py_syntax.specs.declared.operator.Bracket.TheVariants.{Round, Square}
use Rattle.py_syntax.specs.declared.token.Token.{Token}
use Rattle.py_syntax.specs.declared.token.Token.TheVariants as token
use Rattle.py_syntax.specs.declared.piece.Piece.{Piece}
use Rattle.py_syntax.specs.declared.piece.Piece.TheVariants as piece
use Rattle.py_syntax.specs.declared.piece.Mode.{Mode}
use Rattle.py_syntax.specs.declared.piece.Mode.TheVariants as mode
use Rattle.py_syntax.specs.declared.piece.Context.{Context}
use Rattle.py_syntax.specs.declared.piece.OpenBracket.{OpenBracket}

-- what stands before a place: the mode, whether no token stands before it on its physical line and in its logical line, the
-- spaces in front on its physical line, the number of that line, and the brackets that are open, the outermost first
pub record Place : Type 0 where
  pub mode : Mode
  pub at_front : Bool
  pub is_fresh : Bool
  pub spaces : ℕ
  pub line : ℕ
  pub open_brackets : List OpenBracket

abbrev pub context_of : Place → Context
context_of p = record { mode = p.mode; at_front = p.at_front; is_fresh = p.is_fresh }

-- the front of a text
abbrev pub first_place : Place
first_place = record { mode = mode.Code; at_front = true; is_fresh = true; spaces = 0; line = 1; open_brackets = [] }

-- An f-string is read between two quotes of its own.
abbrev pub HasQuote : Mode → Type 0
HasQuote mode.Code = Unit {0}
HasQuote (mode.Format quote) = is_quote quote ≡ true
HasQuote (mode.Expression quote) = is_quote quote ≡ true

-- all but blanks, comments and line ends; a byte that has no place counts as a token
abbrev pub is_token : Piece → Bool
is_token piece.Space = false
is_token piece.Tab = false
is_token piece.Comment = false
is_token piece.LineEnd = false
is_token _ = true

abbrev pub is_line_end : Piece → Bool
is_line_end piece.LineEnd = true
is_line_end _ = false

-- how many line feeds lie in a piece
abbrev pub line_ends : Piece → ℕ
line_ends piece.LineEnd = 1
line_ends (piece.Docstring n) = n
line_ends _ = 0

abbrev pub part_of : Mode → Mode
part_of (mode.Format quote) = mode.Expression quote
part_of r = r

abbrev pub literal_of : Mode → Mode
literal_of (mode.Expression quote) = mode.Format quote
literal_of r = r

-- An f-string ends with its line at the latest.
abbrev pub mode_after : Mode → Piece → Mode
mode_after r (piece.FormatStart quote) = mode.Format quote
mode_after r piece.FormatOpen = part_of r
mode_after r piece.FormatClose = literal_of r
mode_after r piece.FormatEnd = mode.Code
mode_after r piece.FormatCut = mode.Code
mode_after r piece.LineEnd = mode.Code
mode_after r _ = r

abbrev pub front_after : Bool → Piece → Bool
front_after at_front p = is_line_end p || (at_front && not (is_token p))

abbrev pub is_none_open : List OpenBracket → Bool
is_none_open [] = true
is_none_open (o ∷ os) = false

-- A logical line ends with a physical one outside of brackets.
abbrev pub is_logical_end : List OpenBracket → Piece → Bool
is_logical_end open_brackets p = is_line_end p && is_none_open open_brackets

abbrev pub fresh_after : List OpenBracket → Bool → Piece → Bool
fresh_after open_brackets is_fresh p = is_logical_end open_brackets p || (is_fresh && not (is_token p))

abbrev pub spaces_after : Bool → ℕ → Piece → ℕ
spaces_after at_front n piece.LineEnd = 0
spaces_after at_front n piece.Space = if at_front then n + 1 else n
spaces_after at_front n _ = n

abbrev pub same_bracket : Bracket → Bracket → Bool
same_bracket Round Round = true
same_bracket Square Square = true
same_bracket _ _ = false

abbrev pub is_of_kind : Option OpenBracket → Bracket → Bool
is_of_kind None b = false
is_of_kind (Some o) b = same_bracket o.bracket b

-- whether a closing bracket of this kind closes the innermost open one
abbrev pub closes : List OpenBracket → Bracket → Bool
closes open_brackets b = is_of_kind (slice_get open_brackets (length open_brackets - 1)) b

abbrev pub without_innermost : List OpenBracket → List OpenBracket
without_innermost open_brackets = take (length open_brackets - 1) open_brackets

-- Brackets count outside of f-strings. One that doesn't match closes nothing.
abbrev pub open_after_token : ℕ → List OpenBracket → Token → List OpenBracket
open_after_token line open_brackets (token.Open b) = open_brackets ++ record { bracket = b; line = physical_line line } ∷ []
open_after_token line open_brackets (token.Close b) = if closes open_brackets b then without_innermost open_brackets else open_brackets
open_after_token line open_brackets _ = open_brackets

abbrev pub open_in_code : ℕ → List OpenBracket → Piece → List OpenBracket
open_in_code line open_brackets (piece.Token t printable) = open_after_token line open_brackets t
open_in_code line open_brackets _ = open_brackets

abbrev pub is_code : Mode → Bool
is_code mode.Code = true
is_code _ = false

abbrev pub open_after : Mode → ℕ → List OpenBracket → Piece → List OpenBracket
open_after r line open_brackets p = if is_code r then open_in_code line open_brackets p else open_brackets

-- the place behind a piece
unfoldable pub place_after : Place → Piece → Place
place_after a p = record {
  mode = mode_after a.mode p;
  at_front = front_after a.at_front p;
  is_fresh = fresh_after a.open_brackets a.is_fresh p;
  spaces = spaces_after a.at_front a.spaces p;
  line = a.line + line_ends p;
  open_brackets = open_after a.mode a.line a.open_brackets p;
}

-- The logical lines that pieces make, and the rules that they break (the language reference, 2.1).
use Rattle.std.specs.Prelude.{ℕ, Bool, true, false, ◌&&◌, ◌||◌, not, ◌==◌, nat_lt, List, [], ◌∷◌, ◌++◌, Option, None, Some, if◌then◌else◌, find, filter, fold, slice_get, slice_index, length, ◌-◌}
use Rattle.std.specs.List.{filter_map, flat_map, list_any}
use Rattle.std.specs.Option.{option_map}
use Rattle.py_syntax.specs.Line.{Line, physical_line}
use Rattle.py_syntax.specs.Places.{Place, first_place, place_after, is_token, is_logical_end, is_code, closes}
use Rattle.py_syntax.specs.declared.token.Token.{Token}
use Rattle.py_syntax.specs.declared.token.Token.TheVariants as token
use Rattle.py_syntax.specs.declared.piece.Piece.{Piece}
use Rattle.py_syntax.specs.declared.piece.Piece.TheVariants as piece
use Rattle.py_syntax.specs.declared.piece.Mode.{Mode}
use Rattle.py_syntax.specs.declared.piece.OpenBracket.{OpenBracket}
use Rattle.py_syntax.specs.declared.piece.LineRule.{LineRule}
use Rattle.py_syntax.specs.declared.piece.LineRule.TheVariants as rule
use Rattle.py_syntax.specs.declared.piece.Broken.{Broken}

-- a piece and the place where it stands
pub record Placed : Type 0 where
  pub place : Place
  pub piece : Piece

unfoldable pub placed_from : Place → List Piece → List Placed
placed_from a [] = []
placed_from a (p ∷ ps) = record { place = a; piece = p } ∷ placed_from (place_after a p) ps

-- the place behind pieces
unfoldable pub place_behind : Place → List Piece → Place
place_behind a [] = a
place_behind a (p ∷ ps) = place_behind (place_after a p) ps

-- The lines.

abbrev pub ends_line : Placed → Bool
ends_line x = is_logical_end x.place.open_brackets x.piece

abbrev pub into_first : Placed → List (List Placed) → List (List Placed)
into_first x [] = (x ∷ []) ∷ []
into_first x (g ∷ gs) = (x ∷ g) ∷ gs

-- the pieces up to and with each line end outside of brackets (2.1.6)
unfoldable pub groups : List Placed → List (List Placed)
groups [] = [] ∷ []
groups (x ∷ xs) = if ends_line x then (x ∷ []) ∷ groups xs else into_first x (groups xs)

-- the token that a piece is; a docstring is dropped
abbrev pub tokens_of : Piece → List Token
tokens_of (piece.Token t printable) = t ∷ []
tokens_of (piece.FormatStart quote) = token.FormatStart ∷ []
tokens_of piece.FormatOpen = token.FormatOpen ∷ []
tokens_of piece.FormatClose = token.FormatClose ∷ []
tokens_of piece.FormatEnd = token.FormatEnd ∷ []
tokens_of piece.FormatCut = token.Invalid ∷ []
tokens_of piece.OpenText = token.Invalid ∷ []
tokens_of piece.BadByte = token.Invalid ∷ []
tokens_of _ = []

abbrev pub is_docstring : Piece → Bool
is_docstring (piece.Docstring n) = true
is_docstring piece.OpenDocstring = true
is_docstring _ = false

abbrev pub has_token : Placed → Bool
has_token x = is_token x.piece

-- the line of a group whose first token is this one
abbrev pub line_from : List Placed → Option Placed → Option Line
line_from xs None = None
line_from xs (Some x) = Some (record {
  indentation = x.place.spaces;
  number = x.place.line;
  is_docstring = is_docstring x.piece;
  tokens = flat_map (λ y. tokens_of y.piece) xs;
})

-- Empty lines and lines of comments alone are none (2.1.7).
unfoldable pub line_of : List Placed → Option Line
line_of xs = line_from xs (find has_token xs)

unfoldable pub lines_of : List Piece → List Line
lines_of ps = filter_map line_of (groups (placed_from first_place ps))

-- The rules.

-- the rule that a token breaks in code: a closing bracket that closes nothing
abbrev pub closing_rule : List OpenBracket → Token → Option LineRule
closing_rule open_brackets (token.Close b) = if closes open_brackets b then None else Some rule.BadByte
closing_rule open_brackets _ = None

abbrev pub token_rule : Mode → List OpenBracket → Token → Bool → Option LineRule
token_rule r open_brackets t printable =
    if printable then (if is_code r then closing_rule open_brackets t else None) else Some rule.BadByte

-- the rule that a piece breaks at its place
abbrev pub rule_of : Mode → List OpenBracket → Piece → Option LineRule
rule_of r open_brackets (piece.Token t printable) = token_rule r open_brackets t printable
rule_of r open_brackets piece.Tab = Some rule.Tab
rule_of r open_brackets piece.BadByte = Some rule.BadByte
rule_of r open_brackets piece.OpenText = Some rule.UnclosedText
rule_of r open_brackets piece.OpenDocstring = Some rule.UnclosedText
rule_of r open_brackets piece.LineEnd = if is_code r then None else Some rule.UnclosedText
rule_of r open_brackets _ = None

abbrev pub broken_on : ℕ → LineRule → Broken
broken_on line r = record { line = physical_line line; rule = r }

unfoldable pub broken_by : Placed → Option Broken
broken_by x = option_map (broken_on x.place.line) (rule_of x.place.mode x.place.open_brackets x.piece)

-- An f-string that is open where the text ends, on its line; and the outermost open bracket, on its own.
abbrev pub open_line : Option OpenBracket → List Broken
open_line None = []
open_line (Some o) = broken_on o.line.0 rule.UnclosedText ∷ []

abbrev pub open_format : Place → List Broken
open_format a = if is_code a.mode then [] else broken_on a.line rule.UnclosedText ∷ []

unfoldable pub broken_at_end : Place → List Broken
broken_at_end a = open_format a ++ open_line (slice_get a.open_brackets 0)

-- the indentation of the innermost open block, which is that of the line before (2.1.8)
abbrev pub innermost : List ℕ → ℕ
innermost blocks = slice_index blocks (length blocks - 1)

abbrev pub is_dedent : List ℕ → ℕ → Bool
is_dedent blocks n = nat_lt n (innermost blocks) && not (list_any (λ b. b == n) blocks)

-- The blocks that are open at a line of this indentation: those that are indented less, and the line's own.
abbrev pub blocks_at : List ℕ → ℕ → List ℕ
blocks_at blocks n = filter (λ b. nat_lt b n) blocks ++ n ∷ []

-- the first line that is indented less than the one before it, at an indentation of no open block
unfoldable pub first_dedent : List ℕ → List Line → List Broken
first_dedent blocks [] = []
first_dedent blocks (l ∷ ls) =
    if is_dedent blocks l.indentation then broken_on l.number rule.Dedent ∷ []
    else first_dedent (blocks_at blocks l.indentation) ls

abbrev pub rank : LineRule → ℕ
rank rule.Tab = 0
rank rule.Dedent = 1
rank rule.UnclosedText = 2
rank rule.BadByte = 3

-- by line, and on one line by rule
abbrev pub comes_before : Broken → Broken → Bool
comes_before a b = nat_lt a.line.0 b.line.0 || ((a.line.0 == b.line.0) && nat_lt (rank a.rule) (rank b.rule))

abbrev pub earlier : Option Broken → Broken → Option Broken
earlier None b = Some b
earlier (Some a) b = if comes_before b a then Some b else Some a

-- all rules that are broken
unfoldable pub broken_rules : List Piece → List Broken
broken_rules ps =
    filter_map broken_by (placed_from first_place ps) ++ broken_at_end (place_behind first_place ps) ++ first_dedent (0 ∷ []) (lines_of ps)

unfoldable pub first_broken : List Piece → Option Broken
first_broken ps = fold earlier None (broken_rules ps)

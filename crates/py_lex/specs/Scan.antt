-- A means of proof: a scan of a text, piece by piece. It follows the code.
use Rattle.std.specs.Prelude.{◌≡◌, ℕ, Bool, List, [], ◌∷◌, ◌++◌, Option, None, Some, if◌then◌else◌, fold, slice_get}
use Rattle.std.specs.Option.{option_map, option_to_list}
use Rattle.py_syntax.specs.Line.{Line, physical_line}
use Rattle.py_syntax.specs.Places.{Place, first_place, place_after, is_token, is_logical_end}
use Rattle.py_syntax.specs.Found.{IsMadeOf}
use Rattle.py_syntax.specs.Logical.{is_docstring, tokens_of, broken_by, open_format, open_line, first_dedent, earlier}
use Rattle.py_syntax.specs.declared.token.Token.{Token}
use Rattle.py_syntax.specs.declared.piece.Piece.{Piece}
use Rattle.py_syntax.specs.declared.piece.Broken.{Broken}
use Rattle.py_lex.specs.declared.gather.Start.{Start}

-- what is known of the logical line that is being read: its first token, if it has one, and its tokens so far
pub record Gathered : Type 0 where
  pub start : Option Start
  pub tokens : List Token

abbrev pub start_after : Option Start → ℕ → ℕ → Piece → Option Start
start_after (Some s) spaces line p = Some s
start_after None spaces line p =
    if is_token p then Some (record { indentation = spaces; number = physical_line line; is_docstring = is_docstring p }) else None

abbrev pub gathered_after : Gathered → ℕ → ℕ → Piece → Gathered
gathered_after g spaces line p = record { start = start_after g.start spaces line p; tokens = g.tokens ++ tokens_of p }

abbrev pub nothing_gathered : Gathered
nothing_gathered = record { start = None; tokens = [] }

-- the line that was gathered
abbrev pub line_with : List Token → Start → Line
line_with ts s = record { indentation = s.indentation; number = s.number.0; is_docstring = s.is_docstring; tokens = ts }

abbrev pub gathered_line : Gathered → Option Line
gathered_line g = option_map (line_with g.tokens) g.start

-- a scan: where it stands, the line that it is in, the lines before, and the first rule that is broken so far
pub record State : Type 0 where
  pub place : Place
  pub gathered : Gathered
  pub lines : List Line
  pub broken : Option Broken

abbrev pub first_state : State
first_state = record { place = first_place; gathered = nothing_gathered; lines = []; broken = None }

abbrev pub broken_with : Option Broken → Option Broken → Option Broken
broken_with broken other = fold earlier broken (option_to_list other)

abbrev pub with_line : List Line → Gathered → List Line
with_line ls g = ls ++ option_to_list (gathered_line g)

abbrev pub with_piece : State → Piece → Gathered
with_piece s p = gathered_after s.gathered s.place.spaces s.place.line p

abbrev pub ends_here : State → Piece → Bool
ends_here s p = is_logical_end s.place.open_brackets p

unfoldable pub step : State → Piece → State
step s p = record {
  place = place_after s.place p;
  gathered = if ends_here s p then nothing_gathered else with_piece s p;
  lines = if ends_here s p then with_line s.lines (with_piece s p) else s.lines;
  broken = broken_with s.broken (broken_by (record { place = s.place; piece = p }));
}

-- all lines
abbrev pub lines_in : State → List Line
lines_in s = with_line s.lines s.gathered

-- the first broken rule
unfoldable pub broken_in : State → Option Broken
broken_in s = fold earlier s.broken (open_format s.place ++ open_line (slice_get s.place.open_brackets 0) ++ first_dedent (0 ∷ []) (lines_in s))

-- a scan has come to its state over pieces that a text is made of, up to this rest
pub record HasRead (text rest : List ℕ) (s : State) : Type 0 where
  pub pieces : List Piece
  pub made : (more : List Piece) → IsMadeOf s.place rest more → IsMadeOf first_place text (pieces ++ more)
  pub state : s ≡ fold step first_state pieces

-- A means of proof: the piece at the front of a text, and how long it is, found by cases on its bytes.
use Rattle.std.specs.Prelude.{ℕ, Bool, true, false, ◌&&◌, not, ◌+◌, ◌-◌, ◌==◌, List, [], ◌∷◌, length, take, drop, slice_index, slice_get, Option, None, Some, if◌then◌else◌}
use Rattle.std.specs.List.{take_while}
use Rattle.py_syntax.specs.Bytes.{is_digit, is_letter, is_word_byte, is_number_byte, is_quote, is_brace, is_printable, are_printable, not_line_feed, line_feeds}
use Rattle.py_syntax.specs.Keywords.{keyword_of}
use Rattle.py_syntax.specs.Texts.{text_end, said_from, literal_len, docstring_end}
use Rattle.py_syntax.specs.Numbers.{base_of, number_of}
use Rattle.py_syntax.specs.Marks.{bracket_of, operator_at}
use Rattle.py_syntax.specs.Standing.{word_token, number_token, text_token, literal_token, is_line_empty}
use Rattle.py_syntax.specs.declared.operator.Operator.{Operator}
use Rattle.py_syntax.specs.declared.token.Token.{Token}
use Rattle.py_syntax.specs.declared.token.Token.TheVariants as token
use Rattle.py_syntax.specs.declared.piece.Piece.{Piece}
use Rattle.py_syntax.specs.declared.piece.Piece.TheVariants as piece
use Rattle.py_syntax.specs.declared.piece.Mode.{Mode}
use Rattle.py_syntax.specs.declared.piece.Mode.TheVariants as mode
use Rattle.py_syntax.specs.declared.piece.Context.{Context}

-- a piece and its length in bytes
abbrev pub Front : Type 0
Front = Piece × ℕ

abbrev pub or_else : Option Front → Front → Front
or_else (Some x) y = x
or_else None y = y

-- A name is the whole word of letters, digits and `_`.
unfoldable pub word_piece : List ℕ → Front
word_piece text =
    let word = take_while is_word_byte text in
    (piece.Token (word_token word (keyword_of word)) true, length word)

-- A number is the whole word of letters, digits and `_`, in a decimal one of points too.
unfoldable pub number_piece : List ℕ → Front
number_piece text =
    let word = take_while (is_number_byte (base_of text)) text in
    (piece.Token (number_token (number_of word)) true, length word)

-- A bracket or the longest operator; another printable byte begins no token of a form, and any other byte has no place.
abbrev pub other_piece : ℕ → Front
other_piece b = if is_printable b && not (b == 92) then (piece.Token token.Invalid true, 1) else (piece.BadByte, 1)

abbrev pub operator_piece : ℕ → Option (Operator × ℕ) → Front
operator_piece b (Some x) = (piece.Token (token.Operator x.0) true, x.1)
operator_piece b None = other_piece b

abbrev pub mark_or_bracket : Option Token → Front → Front
mark_or_bracket (Some t) mark = (piece.Token t true, 1)
mark_or_bracket None mark = mark

unfoldable pub mark_piece : List ℕ → Front
mark_piece text =
    let b = slice_index text 0 in
    mark_or_bracket (bracket_of b) (operator_piece b (operator_at b (slice_index text 1) (slice_index text 2)))

-- What is read alike in code and in the part of an f-string.
unfoldable pub word_or_mark : List ℕ → Front
word_or_mark text =
    let b = slice_index text 0 in
    if is_digit b then number_piece text else (if is_letter b then word_piece text else mark_piece text)

-- A line's end is a line feed, or a carriage return and a line feed.
unfoldable pub blank_piece : List ℕ → Option Front
blank_piece text =
    let b = slice_index text 0 in
    if b == 10 then Some (piece.LineEnd, 1)
    else (if (b == 13) && (slice_index text 1 == 10) then Some (piece.LineEnd, 2)
    else (if b == 32 then Some (piece.Space, 1) else None))

-- A text is closed on its line, or takes all that is left of it. So many bytes of it stand behind the quote.
abbrev pub text_until : List ℕ → Option ℕ → Front
text_until text (Some n) =
    let body = take (n - 1) (drop 1 text) in
    (piece.Token (text_token (said_from false body)) (are_printable body), n + 1)
text_until text None = (piece.OpenText, length (take_while not_line_feed text))

unfoldable pub text_piece : List ℕ → Front
text_piece text = text_until text (text_end (slice_index text 0) false (drop 1 text))

-- A text of so many bytes is a docstring if it is the first token of its logical line, and nothing else stands on the line.
unfoldable pub docstring_of : List ℕ → ℕ → Option Front
docstring_of text n =
    if is_line_empty (drop n text) then Some (piece.Docstring (line_feeds (take n text)), n) else None

abbrev pub long_docstring : List ℕ → Option ℕ → Option Front
long_docstring text (Some n) = docstring_of text (n + 3)
long_docstring text None = Some (piece.OpenDocstring, length text)

abbrev pub short_docstring : List ℕ → Option ℕ → Option Front
short_docstring text (Some n) = docstring_of text (n + 1)
short_docstring text None = None

unfoldable pub docstring_piece : List ℕ → Option Front
docstring_piece text =
    if (slice_index text 0 == 34) && (slice_index text 1 == 34) && (slice_index text 2 == 34)
    then long_docstring text (docstring_end false 0 (drop 3 text))
    else short_docstring text (text_end (slice_index text 0) false (drop 1 text))

unfoldable pub quoted_piece : Bool → List ℕ → Front
quoted_piece is_fresh text = if is_fresh then or_else (docstring_piece text) (text_piece text) else text_piece text

-- Outside of f-strings.
unfoldable pub code_piece : Context → List ℕ → Front
code_piece c text =
    let b = slice_index text 0 in
    if (b == 9) && c.at_front then (piece.Tab, 1)
    else (if b == 35 then (piece.Comment, length (take_while not_line_feed text))
    else (if is_quote b then quoted_piece c.is_fresh text
    else (if (b == 102) && is_quote (slice_index text 1) then (piece.FormatStart (slice_index text 1), 2)
    else word_or_mark text)))

-- In a part of an f-string no quote, brace or backslash stands. A backslash takes the next byte with it, but no line feed.
abbrev pub after_backslash : Option ℕ → Front
after_backslash None = (piece.Token token.Invalid true, 1)
after_backslash (Some b) = if b == 10 then (piece.Token token.Invalid true, 1) else (piece.Token token.Invalid (is_printable b), 2)

unfoldable pub expression_piece : ℕ → List ℕ → Front
expression_piece quote text =
    let b = slice_index text 0 in
    if b == 125 then (piece.FormatClose, 1)
    else (if b == quote then (piece.FormatCut, 1)
    else (if b == 92 then after_backslash (slice_get text 1)
    else word_or_mark text))

-- Between its quotes and outside of its parts an f-string stands for itself, where `{{` and `}}` are braces.
abbrev pub brace_piece : ℕ → ℕ → Front
brace_piece b c =
    if b == c then (piece.Token (token.FormatText (b ∷ [])) true, 2)
    else (if b == 123 then (piece.FormatOpen, 1) else (piece.Token token.Invalid true, 1))

abbrev pub literal_piece : List ℕ → Front
literal_piece literal = (piece.Token (literal_token (said_from false literal)) (are_printable literal), length literal)

unfoldable pub format_piece : ℕ → List ℕ → Front
format_piece quote text =
    let b = slice_index text 0 in
    if b == 10 then (piece.LineEnd, 1)
    else (if b == quote then (piece.FormatEnd, 1)
    else (if is_brace b then brace_piece b (slice_index text 1)
    else literal_piece (take (literal_len quote false text) text)))

abbrev pub piece_in : Mode → Context → List ℕ → Front
piece_in mode.Code c text = or_else (blank_piece text) (code_piece c text)
piece_in (mode.Expression quote) c text = or_else (blank_piece text) (expression_piece quote text)
piece_in (mode.Format quote) c text = format_piece quote text

-- the piece that stands here
unfoldable pub piece_at : Context → List ℕ → Front
piece_at c text = piece_in c.mode c text

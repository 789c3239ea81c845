-- Which bytes spell a piece, and before which rest, rule by rule (the language reference, 2).
use Rattle.std.specs.Prelude.{◌≡◌, ◌≢◌, ◌≤◌, ℕ, Bool, true, false, ◌&&◌, ◌||◌, not, ◌==◌, List, [], ◌∷◌, ◌++◌, length, drop, slice_index, codes, Option, None, Some}
use Rattle.std.specs.List.{list_all, list_any, take_while}
use Rattle.std.specs.Str.{bytes_eq}
use Rattle.py_syntax.specs.Bytes.{is_digit, is_letter, is_word_byte, is_number_byte, is_quote, is_brace, is_printable, are_printable, not_line_feed, line_feeds}
use Rattle.py_syntax.specs.Items.{Item, bytes_of, said_by, AreInText, AreInLiteral, AreInDocstring}
use Rattle.py_syntax.specs.Keywords.{keyword_of}
use Rattle.py_syntax.specs.Numbers.{base_of, number_of}
use Rattle.py_syntax.specs.declared.keyword.Keyword.{Keyword}
use Rattle.py_syntax.specs.declared.operator.Operator.{Operator}
use Rattle.py_syntax.specs.declared.operator.Operator.TheVariants as operator
use Rattle.py_syntax.specs.declared.operator.Bracket.{Bracket}
use Rattle.py_syntax.specs.declared.operator.Bracket.TheVariants.{Round, Square}
use Rattle.py_syntax.specs.declared.token.Token.{Token}
use Rattle.py_syntax.specs.declared.token.Token.TheVariants as token
use Rattle.py_syntax.specs.declared.piece.Piece.{Piece}
use Rattle.py_syntax.specs.declared.piece.Piece.TheVariants as piece
use Rattle.py_syntax.specs.declared.piece.Mode.{Mode}
use Rattle.py_syntax.specs.declared.piece.Mode.TheVariants as mode
use Rattle.py_syntax.specs.declared.piece.Context.{Context}

-- no byte that passes follows
abbrev pub EndsBefore : (ℕ → Bool) → List ℕ → Type 0
EndsBefore passes [] = Unit {0}
EndsBefore passes (b ∷ rest) = passes b ≡ false

-- Where code is read: outside of f-strings, and in a part of one.
abbrev pub IsOfCode : Mode → Type 0
IsOfCode mode.Code = Unit {0}
IsOfCode (mode.Expression quote) = is_quote quote ≡ true
IsOfCode (mode.Format quote) = ⊥

-- Words, marks and what texts say.

abbrev pub word_token : List ℕ → Option Keyword → Token
word_token word (Some k) = token.Keyword k
word_token word None = token.Name word

abbrev pub number_token : Option ℕ → Token
number_token (Some n) = token.Number n
number_token None = token.Invalid

abbrev pub text_token : Option (List ℕ) → Token
text_token (Some said) = token.Text said
text_token None = token.Invalid

abbrev pub literal_token : Option (List ℕ) → Token
literal_token (Some said) = token.FormatText said
literal_token None = token.Invalid

abbrev pub operator_bytes : Operator → List ℕ
operator_bytes operator.Comma = codes ","
operator_bytes operator.Dot = codes "."
operator_bytes operator.Colon = codes ":"
operator_bytes operator.At = codes "@"
operator_bytes operator.Invert = codes "~"
operator_bytes operator.Assign = codes "="
operator_bytes operator.Less = codes "<"
operator_bytes operator.Greater = codes ">"
operator_bytes operator.Or = codes "|"
operator_bytes operator.Xor = codes "^"
operator_bytes operator.And = codes "&"
operator_bytes operator.Plus = codes "+"
operator_bytes operator.Minus = codes "-"
operator_bytes operator.Times = codes "*"
operator_bytes operator.Modulo = codes "%"
operator_bytes operator.Equal = codes "=="
operator_bytes operator.NotEqual = codes "!="
operator_bytes operator.LessEqual = codes "<="
operator_bytes operator.GreaterEqual = codes ">="
operator_bytes operator.ShiftLeft = codes "<<"
operator_bytes operator.ShiftRight = codes ">>"
operator_bytes operator.FloorDivide = codes "//"
operator_bytes operator.OrAssign = codes "|="
operator_bytes operator.XorAssign = codes "^="
operator_bytes operator.AndAssign = codes "&="
operator_bytes operator.PlusAssign = codes "+="
operator_bytes operator.MinusAssign = codes "-="
operator_bytes operator.TimesAssign = codes "*="
operator_bytes operator.ModuloAssign = codes "%="
operator_bytes operator.ShiftLeftAssign = codes "<<="
operator_bytes operator.ShiftRightAssign = codes ">>="
operator_bytes operator.FloorDivideAssign = codes "//="

abbrev pub open_bytes : Bracket → List ℕ
open_bytes Round = codes "("
open_bytes Square = codes "["

abbrev pub close_bytes : Bracket → List ℕ
close_bytes Round = codes ")"
close_bytes Square = codes "]"

-- Of the operators and delimiters that stand here none is longer than these bytes.
abbrev pub IsLongest : List ℕ → List ℕ → Type 0
IsLongest bytes rest = (op : Operator) (behind : List ℕ) → bytes ++ rest ≡ operator_bytes op ++ behind → length (operator_bytes op) ≤ length bytes

-- ! $ / ; ? ` { begin no token of a form, but for the marks `!=` and `//`.
abbrev pub is_formless : ℕ → Bool
is_formless b = list_any (λ x. x == b) (codes "!$/;?`{")

-- Outside of f-strings `f` right before a quote begins one.
abbrev pub begins_format : Mode → List ℕ → List ℕ → Bool
begins_format mode.Code bytes rest = bytes_eq bytes (codes "f") && is_quote (slice_index rest 0)
begins_format r bytes rest = false

-- Docstrings.

-- the text ends here, or a line feed or a comment begins
abbrev pub is_line_over : List ℕ → Bool
is_line_over [] = true
is_line_over (b ∷ bs) = (b == 10) || (b == 35) || ((b == 13) && (slice_index bs 0 == 10))

-- nothing but spaces and a comment stands before the line's end
unfoldable pub is_line_empty : List ℕ → Bool
is_line_empty text = is_line_over (drop (length (take_while (λ b. b == 32) text)) text)

-- no three quotes close this
abbrev pub StaysOpen : List ℕ → Type 0
StaysOpen body = (items : List Item) (behind : List ℕ) → AreInDocstring items → body ≡ bytes_of items ++ 34 ∷ 34 ∷ 34 ∷ behind → ⊥

-- A text with nothing else on its line, or three quotes that stay open to the end of all.
pub data IsDocstring (p : Piece) (bytes rest : List ℕ) : Type 0 where
  short : (quote : ℕ) (items : List Item) → is_quote quote ≡ true → AreInText quote items → bytes ≡ quote ∷ (bytes_of items ++ quote ∷ []) → is_line_empty rest ≡ true
      → p ≡ piece.Docstring (line_feeds bytes) → IsDocstring p bytes rest
  long : (items : List Item) → AreInDocstring items → bytes ≡ 34 ∷ 34 ∷ 34 ∷ (bytes_of items ++ 34 ∷ 34 ∷ 34 ∷ []) → is_line_empty rest ≡ true
      → p ≡ piece.Docstring (line_feeds bytes) → IsDocstring p bytes rest
  endless : (body : List ℕ) → StaysOpen body → bytes ≡ 34 ∷ 34 ∷ 34 ∷ body → rest ≡ [] → p ≡ piece.OpenDocstring → IsDocstring p bytes rest

-- Where a logical line begins, this is no docstring.
abbrev pub IsNoDocstring : Context → List ℕ → Type 0
IsNoDocstring c text = c.is_fresh ≡ true → (p : Piece) (bytes rest : List ℕ) → text ≡ bytes ++ rest → IsDocstring p bytes rest → ⊥

-- no such quote closes this on its line
abbrev pub StaysOpenOnLine : ℕ → List ℕ → Type 0
StaysOpenOnLine quote body = (items : List Item) (behind : List ℕ) → AreInText quote items → body ≡ bytes_of items ++ quote ∷ behind → ⊥

-- The piece stands here, spelled by these bytes, before this rest.
pub data Stands (c : Context) (p : Piece) (bytes rest : List ℕ) : Type 0 where
  -- Ends of lines, blanks and comments. A line ends with a line feed, or a carriage return and a line feed (2.1.2, 2.1.3 and 2.1.9).
  line_feed : p ≡ piece.LineEnd → bytes ≡ 10 ∷ [] → Stands c p bytes rest
  carriage_return : IsOfCode c.mode → p ≡ piece.LineEnd → bytes ≡ 13 ∷ 10 ∷ [] → Stands c p bytes rest
  space : IsOfCode c.mode → p ≡ piece.Space → bytes ≡ 32 ∷ [] → Stands c p bytes rest
  tab : c.mode ≡ mode.Code → c.at_front ≡ true → p ≡ piece.Tab → bytes ≡ 9 ∷ [] → Stands c p bytes rest
  comment : (body : List ℕ) → c.mode ≡ mode.Code → p ≡ piece.Comment → bytes ≡ 35 ∷ body → list_all not_line_feed body ≡ true → EndsBefore not_line_feed rest → Stands c p bytes rest
  -- Words, brackets and marks, each as long as can be (2.3, 2.5 and 2.6).
  word : IsOfCode c.mode → p ≡ piece.Token (word_token bytes (keyword_of bytes)) true → is_letter (slice_index bytes 0) ≡ true → list_all is_word_byte bytes ≡ true → EndsBefore is_word_byte rest
      → begins_format c.mode bytes rest ≡ false → Stands c p bytes rest
  number : IsOfCode c.mode → p ≡ piece.Token (number_token (number_of bytes)) true → is_digit (slice_index bytes 0) ≡ true → list_all (is_number_byte (base_of bytes)) bytes ≡ true
      → EndsBefore (is_number_byte (base_of bytes)) rest → Stands c p bytes rest
  open_bracket : (b : Bracket) → IsOfCode c.mode → p ≡ piece.Token (token.Open b) true → bytes ≡ open_bytes b → Stands c p bytes rest
  close_bracket : (b : Bracket) → IsOfCode c.mode → p ≡ piece.Token (token.Close b) true → bytes ≡ close_bytes b → Stands c p bytes rest
  mark : (op : Operator) → IsOfCode c.mode → p ≡ piece.Token (token.Operator op) true → bytes ≡ operator_bytes op → IsLongest bytes rest → Stands c p bytes rest
  -- Printable bytes that begin no token of a form. In a part of an f-string no comment and no text begins.
  no_form : (b : ℕ) → IsOfCode c.mode → p ≡ piece.Token token.Invalid true → bytes ≡ b ∷ [] → is_formless b ≡ true → IsLongest bytes rest → Stands c p bytes rest
  closing_brace : c.mode ≡ mode.Code → p ≡ piece.Token token.Invalid true → bytes ≡ 125 ∷ [] → Stands c p bytes rest
  hash_in_part : (quote : ℕ) → c.mode ≡ mode.Expression quote → is_quote quote ≡ true → p ≡ piece.Token token.Invalid true → bytes ≡ 35 ∷ [] → Stands c p bytes rest
  quote_in_part : (b quote : ℕ) → c.mode ≡ mode.Expression quote → is_quote quote ≡ true → p ≡ piece.Token token.Invalid true → bytes ≡ b ∷ [] → is_quote b ≡ true → b ≢ quote → Stands c p bytes rest
  -- Bytes that have no place: those that aren't printable, where they don't end a line and don't stand in front of one, and a backslash.
  bad_byte : (b : ℕ) → IsOfCode c.mode → p ≡ piece.BadByte → bytes ≡ b ∷ [] → is_printable b ≡ false → b ≢ 10 → (b ≡ 13 → EndsBefore (λ d. d == 10) rest)
      → (b ≡ 9 → c.mode ≡ mode.Code → c.at_front ≡ true → ⊥) → Stands c p bytes rest
  backslash : c.mode ≡ mode.Code → p ≡ piece.BadByte → bytes ≡ 92 ∷ [] → Stands c p bytes rest
  -- Texts and docstrings (2.4.1).
  text : (quote : ℕ) (items : List Item) → c.mode ≡ mode.Code → p ≡ piece.Token (text_token (said_by items)) (are_printable (bytes_of items)) → bytes ≡ quote ∷ (bytes_of items ++ quote ∷ [])
      → is_quote quote ≡ true → AreInText quote items → IsNoDocstring c (bytes ++ rest) → Stands c p bytes rest
  open_text : (quote : ℕ) (body : List ℕ) → c.mode ≡ mode.Code → p ≡ piece.OpenText → bytes ≡ quote ∷ body → is_quote quote ≡ true → list_all not_line_feed body ≡ true
      → EndsBefore not_line_feed rest → StaysOpenOnLine quote (body ++ rest) → Stands c p bytes rest
  docstring : c.mode ≡ mode.Code → c.is_fresh ≡ true → IsDocstring p bytes rest → Stands c p bytes rest
  -- F-strings: their quotes, what stands for itself, where `{{` and `}}` say a brace, and parts.
  format_start : (quote : ℕ) → c.mode ≡ mode.Code → p ≡ piece.FormatStart quote → is_quote quote ≡ true → bytes ≡ 102 ∷ quote ∷ [] → Stands c p bytes rest
  format_end : (quote : ℕ) → c.mode ≡ mode.Format quote → is_quote quote ≡ true → p ≡ piece.FormatEnd → bytes ≡ quote ∷ [] → Stands c p bytes rest
  brace : (b quote : ℕ) → c.mode ≡ mode.Format quote → is_quote quote ≡ true → p ≡ piece.Token (token.FormatText (b ∷ [])) true → is_brace b ≡ true → bytes ≡ b ∷ b ∷ [] → Stands c p bytes rest
  format_open : (quote : ℕ) → c.mode ≡ mode.Format quote → is_quote quote ≡ true → p ≡ piece.FormatOpen → bytes ≡ 123 ∷ [] → EndsBefore (λ b. b == 123) rest → Stands c p bytes rest
  lone_brace : (quote : ℕ) → c.mode ≡ mode.Format quote → is_quote quote ≡ true → p ≡ piece.Token token.Invalid true → bytes ≡ 125 ∷ [] → EndsBefore (λ b. b == 125) rest → Stands c p bytes rest
  literal : (quote : ℕ) (items : List Item) → c.mode ≡ mode.Format quote → is_quote quote ≡ true → p ≡ piece.Token (literal_token (said_by items)) (are_printable bytes) → bytes ≡ bytes_of items → bytes ≢ []
      → AreInLiteral quote items → EndsBefore (λ b. not (b == 10) && not ((b == quote) || is_brace b)) rest → Stands c p bytes rest
  cut_literal : (quote : ℕ) (items : List Item) → c.mode ≡ mode.Format quote → is_quote quote ≡ true → p ≡ piece.Token token.Invalid (are_printable bytes) → bytes ≡ bytes_of items ++ 92 ∷ []
      → AreInLiteral quote items → EndsBefore not_line_feed rest → Stands c p bytes rest
  format_close : (quote : ℕ) → c.mode ≡ mode.Expression quote → is_quote quote ≡ true → p ≡ piece.FormatClose → bytes ≡ 125 ∷ [] → Stands c p bytes rest
  format_cut : (quote : ℕ) → c.mode ≡ mode.Expression quote → is_quote quote ≡ true → p ≡ piece.FormatCut → bytes ≡ quote ∷ [] → Stands c p bytes rest
  escape_in_part : (b quote : ℕ) → c.mode ≡ mode.Expression quote → is_quote quote ≡ true → p ≡ piece.Token token.Invalid (is_printable b) → bytes ≡ 92 ∷ b ∷ [] → b ≢ 10 → Stands c p bytes rest
  backslash_in_part : (quote : ℕ) → c.mode ≡ mode.Expression quote → is_quote quote ≡ true → p ≡ piece.Token token.Invalid true → bytes ≡ 92 ∷ [] → EndsBefore not_line_feed rest → Stands c p bytes rest

-- A means of proof: what stands at a place of a text, as the code finds it. `Row` says what it means.
use Rattle.std.specs.Prelude.{ℕ, ◌+◌, Bool, true, false, ◌==◌, ◌||◌, List, [], ◌∷◌, length, take, drop, Option, Some, None, if◌then◌else◌}
use lib.Chars.{codes}
use Rattle.four_value.specs.declared.Digit.{Digit}
use Rattle.four_value.specs.Vector.{vector}
use Rattle.v_syntax.specs.declared.word.Keyword.{Keyword}
use Rattle.v_syntax.specs.declared.word.ReservedWord.{ReservedWord}
use Rattle.v_syntax.specs.declared.word.SystemTask.{SystemTask}
use Rattle.v_syntax.specs.declared.mark.Mark.{Mark}
use Rattle.v_syntax.specs.declared.token.Token.{Token}
use Rattle.v_syntax.specs.declared.token.Token.TheVariants as token
use Rattle.v_syntax.specs.Words.{keyword_of, reserved_of, task_of}
use Rattle.v_syntax.specs.Marks.{mark_at, mark_spelling}
use Rattle.v_lex.specs.declared.base.Base.{Base}
use Rattle.v_lex.specs.declared.bytes.ByteClass.TheVariants as class
use Rattle.v_lex.specs.declared.directive.DirectiveWord.{DirectiveWord}
use Rattle.v_lex.specs.declared.directive.LexRule.TheVariants as rule
use Rattle.v_lex.specs.declared.directive.Piece.{Piece}
use Rattle.v_lex.specs.Bytes.{is_separator, is_digit, is_name_start, run}
use Rattle.v_lex.specs.Digits.{base_of}
use Rattle.v_lex.specs.DirectiveWords.{directive_of}
use Rattle.v_lex.specs.Numbers.{◌>>=◌, decimal_of, vector_of, size_of}
use Rattle.v_lex.specs.Comments.{gap, token_of, broken, begins, comment_at}
use Rattle.v_lex.specs.DirectiveScan.{directive_at, is_conditional}

-- ---- texts

-- how many bytes stand between a quote and the next quote on its line
abbrev pub text_len : List ℕ → Option ℕ
text_len after = if begins (drop (run class.Text after) after) (codes "\"") then Some (run class.Text after) else None

-- A text that isn't closed reaches to the end of its line.
abbrev pub text_to : List ℕ → Option ℕ → Piece
text_to after (Some n) = token_of (2 + n) (token.Text (take n after))
text_to after None = broken (1 + run class.Text after) rule.UnclosedText

-- the text behind a quote
unfoldable pub text_at : List ℕ → Piece
text_at after = text_to after (text_len after)

-- ---- numbers, names and marks

abbrev pub number_or_bad : ℕ → Option (List Digit) → Piece
number_or_bad n (Some ds) = token_of n (token.Number ds)
number_or_bad n None = broken n rule.BadNumber

-- decimal digits alone: 32 bits
abbrev pub plain_value : List ℕ → Option (List Digit)
plain_value digits = decimal_of digits >>= λ n. Some (vector 32 n)

-- size, base and digits
abbrev pub based_value : List ℕ → Base → List ℕ → Option (List Digit)
based_value size base written = size_of size >>= λ n. vector_of base n written

-- Behind the base stands the longest run of bytes that count as digits.
abbrev pub based_number : List ℕ → Base → List ℕ → Piece
based_number size base written = number_or_bad (length size + 2 + length written) (based_value size base written)

-- the base that ' and a letter name
unfoldable pub base_at : List ℕ → Option Base
base_at [] = None
base_at (q ∷ []) = None
base_at (q ∷ b ∷ bs) = if q == 39 then base_of b else None

abbrev pub number_with : List ℕ → List ℕ → Option Base → Piece
number_with digits rest (Some base) = based_number digits base (take (run class.Written (drop 2 rest)) (drop 2 rest))
number_with digits rest None = if length digits == 0 then broken 1 rule.BadByte else number_or_bad (length digits) (plain_value digits)

-- a number, or a ' that begins none
unfoldable pub number_at : List ℕ → Piece
number_at text =
    number_with (take (run class.Decimal text) text) (drop (run class.Decimal text) text) (base_at (drop (run class.Decimal text) text))

abbrev pub reserved_or_name : List ℕ → Option ReservedWord → Token
reserved_or_name word (Some r) = token.Reserved r
reserved_or_name word None = token.Name word

abbrev pub keyword_or_name : List ℕ → Option Keyword → Token
keyword_or_name word (Some k) = token.Keyword k
keyword_or_name word None = reserved_or_name word (reserved_of word)

unfoldable pub word_token : List ℕ → Token
word_token word = keyword_or_name word (keyword_of word)

-- the first byte and the longest run of bytes of a name behind it
abbrev pub word_size : List ℕ → ℕ
word_size text = 1 + run class.Name (drop 1 text)

unfoldable pub word_at : List ℕ → Piece
word_at text = token_of (word_size text) (word_token (take (word_size text) text))

abbrev pub task_or_bad : ℕ → Option SystemTask → Piece
task_or_bad n (Some t) = token_of n (token.SystemTask t)
task_or_bad n None = broken n rule.BadByte

-- a name that begins with $
unfoldable pub task_at : List ℕ → Piece
task_at text = task_or_bad (word_size text) (task_of (take (word_size text) text))

abbrev pub mark_or_bad : Option Mark → Piece
mark_or_bad (Some m) = token_of (length (mark_spelling m)) (token.Mark m)
mark_or_bad None = broken 1 rule.BadByte

unfoldable pub mark_piece : List ℕ → Piece
mark_piece text = mark_or_bad (mark_at text)

-- ---- the piece at a place

abbrev pub comment_or : Piece → Option Piece → Piece
comment_or other (Some p) = p
comment_or other None = other

-- a token, a directive or a byte that begins none; b is the first byte
abbrev pub token_from : ℕ → List ℕ → List ℕ → Piece
token_from b after text =
    if b == 34 then text_at after
    else (if b == 96 then directive_at after
    else (if is_digit b || (b == 39) then number_at text
    else (if is_name_start b then word_at text else (if b == 36 then task_at text else mark_piece text))))

abbrev pub closed_text_or_byte : Option ℕ → Piece
closed_text_or_byte (Some n) = gap (2 + n)
closed_text_or_byte None = gap 1

abbrev pub conditional_or_byte : List ℕ → Option DirectiveWord → Piece
conditional_or_byte after d = if is_conditional d then directive_at after else gap 1

abbrev pub skipped_from : ℕ → List ℕ → Piece
skipped_from b after =
    if b == 34 then closed_text_or_byte (text_len after)
    else (if b == 96 then conditional_or_byte after (directive_of (take (run class.Name after) after)) else gap 1)

abbrev pub taken_or_skipped : Bool → ℕ → List ℕ → Piece
taken_or_skipped true b after = token_from b after (b ∷ after)
taken_or_skipped false b after = skipped_from b after

-- what stands at the front of a text, in a part that is taken or not
unfoldable pub piece_at : Bool → List ℕ → Piece
piece_at is_taken [] = gap 0
piece_at is_taken (b ∷ bs) = if is_separator b then gap 1 else comment_or (taken_or_skipped is_taken b bs) (comment_at (b ∷ bs))

-- Every text has pieces: at each place of it a piece stands, and it takes at least a byte.
use Rattle.std.proofs.Common.{◌≡◌, ℕ, zero, suc, ◌+◌, ◌<◌, ◌≤◌, Bool, true, false, not, ◌==◌, ◌&&◌, List, [], ◌∷◌, length, take, drop, Option, None, Some, refl, arith}
use Rattle.std.proofs.lemmas.Bool.Decides.{nat_tests}
use Rattle.std.specs.Prelude.{if◌then◌else◌, slice_index, slice_get, IfSome}
use Rattle.std.specs.List.{take_while}
use Rattle.py_syntax.specs.Bytes.{is_digit, is_letter, is_word_byte, is_number_byte, is_quote, is_brace, is_printable, not_line_feed, line_feeds}
use Rattle.py_syntax.specs.Numbers.{base_of}
use Rattle.py_syntax.specs.Marks.{bracket_of, operator_at}
use Rattle.py_syntax.specs.Texts.{text_end, literal_len, docstring_end}
use Rattle.py_syntax.specs.Pieces.{Front, or_else, piece_at, piece_in, blank_piece, code_piece, expression_piece, format_piece, word_or_mark, word_piece, number_piece, mark_piece, mark_or_bracket, operator_piece, other_piece, quoted_piece, docstring_piece, docstring_of, long_docstring, short_docstring, text_piece, text_until, after_backslash, brace_piece}
use Rattle.py_syntax.specs.Standing.{is_line_empty}
use Rattle.py_syntax.specs.Places.{Place, context_of, place_after}
use Rattle.py_syntax.specs.Found.{IsMadeOf}
use Rattle.py_syntax.specs.declared.operator.Operator.{Operator}
use Rattle.py_syntax.specs.declared.token.Token.{Token}
use Rattle.py_syntax.specs.declared.piece.Piece.{Piece}
use Rattle.py_syntax.specs.declared.piece.Piece.TheVariants as piece
use Rattle.py_syntax.specs.declared.piece.Mode.{Mode}
use Rattle.py_syntax.specs.declared.piece.Mode.TheVariants as mode
use Rattle.py_syntax.specs.declared.piece.Context.{Context}
use Rattle.py_syntax.proofs.Tests.{letter_is_word, digit_is_number}
use Rattle.py_lex.specs.Fits.{IsSpelled}
use Rattle.py_lex.proofs.Bounds.{operator_spelled}
use Rattle.py_lex.proofs.Passes.{first_passes}

-- a front that takes at least a byte
abbrev Has : Front → Type 0
Has x = 0 < x.1

by_if : (t : Bool) (x y : Front) → (t ≡ true → Has x) → (t ≡ false → Has y) → Has (if t then x else y)
by_if true x y p q = p refl
by_if false x y p q = q refl

either_has : (o : Option Front) (y : Front) → IfSome o (λ x. 0 < x.1) → Has y → Has (or_else o y)
either_has None y h k = k
either_has (Some x) y h k = h

if_some : (t : Bool) (o p : Option Front) → (t ≡ true → IfSome o (λ x. 0 < x.1)) → (t ≡ false → IfSome p (λ x. 0 < x.1)) → IfSome (if t then o else p) (λ x. 0 < x.1)
if_some true o p h k = h refl
if_some false o p h k = k refl

run_has : (p : ℕ → Bool) (b : ℕ) (bs : List ℕ) → p b ≡ true → 0 < length (take_while p (b ∷ bs))
run_has p b bs e = first_passes p (b ∷ bs) (omega arith) e

-- ---- words and marks

other_has : (b : ℕ) → Has (other_piece b)
other_has b = by_if (is_printable b && not (b == 92)) _ _ (λ e. omega arith) (λ e. omega arith)

operator_has : (b c n : ℕ) (o : Option (Operator × ℕ)) → IfSome o (λ x. IsSpelled c n x.1) → Has (operator_piece b o)
operator_has b c n None h = other_has b
operator_has b c n (Some x) h = h.positive

bracket_has : (o : Option Token) (x : Front) → Has x → Has (mark_or_bracket o x)
bracket_has None x h = h
bracket_has (Some t) x h = omega arith

mark_has : (b : ℕ) (bs : List ℕ) → Has (mark_piece (b ∷ bs))
unfolding mark_piece
mark_has b bs =
    bracket_has (bracket_of b) _ (operator_has b (slice_index bs 0) (slice_index bs 1) (operator_at b (slice_index bs 0) (slice_index bs 1)) (operator_spelled b (slice_index bs 0) (slice_index bs 1)))

word_has : (b : ℕ) (bs : List ℕ) → is_letter b ≡ true → Has (word_piece (b ∷ bs))
unfolding word_piece
word_has b bs e = run_has is_word_byte b bs (letter_is_word b e)

number_has : (b : ℕ) (bs : List ℕ) → is_digit b ≡ true → Has (number_piece (b ∷ bs))
unfolding number_piece
number_has b bs e = run_has (is_number_byte (base_of (b ∷ bs))) b bs (digit_is_number (base_of (b ∷ bs)) b e)

word_or_mark_has : (b : ℕ) (bs : List ℕ) → Has (word_or_mark (b ∷ bs))
unfolding word_or_mark
word_or_mark_has b bs = by_if (is_digit b) _ _ (λ e. number_has b bs e) (λ e. by_if (is_letter b) _ _ (λ f. word_has b bs f) (λ f. mark_has b bs))

blank_has : (text : List ℕ) → IfSome (blank_piece text) (λ x. 0 < x.1)
unfolding blank_piece
blank_has text =
    if_some (slice_index text 0 == 10) _ _ (λ e. omega arith)
    (λ e. if_some ((slice_index text 0 == 13) && (slice_index text 1 == 10)) _ _ (λ f. omega arith)
    (λ f. if_some (slice_index text 0 == 32) _ _ (λ g. omega arith) (λ g. tt)))

-- ---- texts and docstrings

quote_is_no_feed : (b : ℕ) → is_quote b ≡ true → not_line_feed b ≡ true
quote_is_no_feed b e = grind (arith, nat_tests)

until_has : (b : ℕ) (bs : List ℕ) (o : Option ℕ) → is_quote b ≡ true → Has (text_until (b ∷ bs) o)
until_has b bs None e = run_has not_line_feed b bs (quote_is_no_feed b e)
until_has b bs (Some n) e = omega arith

text_has : (b : ℕ) (bs : List ℕ) → is_quote b ≡ true → Has (text_piece (b ∷ bs))
unfolding text_piece
text_has b bs e = until_has b bs (text_end b false bs) e

docstring_of_has : (text : List ℕ) (n : ℕ) → 0 < n → IfSome (docstring_of text n) (λ x. 0 < x.1)
unfolding docstring_of
docstring_of_has text n h = if_some (is_line_empty (drop n text)) (Some (piece.Docstring (line_feeds (take n text)), n)) None (λ e. h) (λ e. tt)

long_has : (b : ℕ) (bs : List ℕ) (o : Option ℕ) → IfSome (long_docstring (b ∷ bs) o) (λ x. 0 < x.1)
long_has b bs None = omega arith
long_has b bs (Some n) = docstring_of_has (b ∷ bs) (n + 3) (omega arith)

short_has : (b : ℕ) (bs : List ℕ) (o : Option ℕ) → IfSome (short_docstring (b ∷ bs) o) (λ x. 0 < x.1)
short_has b bs None = tt
short_has b bs (Some n) = docstring_of_has (b ∷ bs) (n + 1) (omega arith)

docstring_has : (b : ℕ) (bs : List ℕ) → IfSome (docstring_piece (b ∷ bs)) (λ x. 0 < x.1)
unfolding docstring_piece
docstring_has b bs =
    if_some ((slice_index (b ∷ bs) 0 == 34) && (slice_index (b ∷ bs) 1 == 34) && (slice_index (b ∷ bs) 2 == 34))
    (long_docstring (b ∷ bs) (docstring_end false 0 (drop 3 (b ∷ bs)))) (short_docstring (b ∷ bs) (text_end b false bs))
    (λ e. long_has b bs (docstring_end false 0 (drop 3 (b ∷ bs)))) (λ e. short_has b bs (text_end b false bs))

quoted_has : (is_fresh : Bool) (b : ℕ) (bs : List ℕ) → is_quote b ≡ true → Has (quoted_piece is_fresh (b ∷ bs))
unfolding quoted_piece
quoted_has true b bs e = either_has (docstring_piece (b ∷ bs)) (text_piece (b ∷ bs)) (docstring_has b bs) (text_has b bs e)
quoted_has false b bs e = text_has b bs e

-- ---- each mode

hash_is_no_feed : (b : ℕ) → (b == 35) ≡ true → not_line_feed b ≡ true
hash_is_no_feed b e = grind (arith, nat_tests)

code_has : (c : Context) (b : ℕ) (bs : List ℕ) → Has (code_piece c (b ∷ bs))
unfolding code_piece
code_has c b bs =
    by_if ((b == 9) && c.at_front) _ _ (λ e. omega arith)
    (λ e. by_if (b == 35) _ _ (λ f. run_has not_line_feed b bs (hash_is_no_feed b f))
    (λ f. by_if (is_quote b) _ _ (λ g. quoted_has c.is_fresh b bs g)
    (λ g. by_if ((b == 102) && is_quote (slice_index (b ∷ bs) 1)) _ _ (λ h. omega arith) (λ h. word_or_mark_has b bs))))

backslash_has : (o : Option ℕ) → Has (after_backslash o)
backslash_has None = omega arith
backslash_has (Some b) = by_if (b == 10) _ _ (λ e. omega arith) (λ e. omega arith)

expression_has : (quote b : ℕ) (bs : List ℕ) → Has (expression_piece quote (b ∷ bs))
unfolding expression_piece
expression_has quote b bs =
    by_if (b == 125) _ _ (λ e. omega arith)
    (λ e. by_if (b == quote) _ _ (λ f. omega arith)
    (λ f. by_if (b == 92) _ _ (λ g. backslash_has (slice_get (b ∷ bs) 1)) (λ g. word_or_mark_has b bs)))

brace_has : (b c : ℕ) → Has (brace_piece b c)
brace_has b c = by_if (b == c) _ _ (λ e. omega arith) (λ e. by_if (b == 123) _ _ (λ f. omega arith) (λ f. omega arith))

taken_has : (n b : ℕ) (bs : List ℕ) → 0 < n → 0 < length (take n (b ∷ bs))
taken_has zero b bs h = absurd (omega arith)
taken_has (suc n) b bs h = omega arith

literal_has : (quote b : ℕ) (bs : List ℕ) → (b == 10) ≡ false → (b == quote) ≡ false → is_brace b ≡ false → 0 < literal_len quote false (b ∷ bs)
unfolding literal_len
literal_has quote b bs e f g = rw (e, f, g) (omega arith)

format_has : (quote b : ℕ) (bs : List ℕ) → Has (format_piece quote (b ∷ bs))
unfolding format_piece
format_has quote b bs =
    by_if (b == 10) _ _ (λ e. omega arith)
    (λ e. by_if (b == quote) _ _ (λ f. omega arith)
    (λ f. by_if (is_brace b) _ _ (λ g. brace_has b (slice_index bs 0))
    (λ g. taken_has (literal_len quote false (b ∷ bs)) b bs (literal_has quote b bs e f g))))

in_has : (r : Mode) (c : Context) (b : ℕ) (bs : List ℕ) → Has (piece_in r c (b ∷ bs))
in_has mode.Code c b bs = either_has (blank_piece (b ∷ bs)) (code_piece c (b ∷ bs)) (blank_has (b ∷ bs)) (code_has c b bs)
in_has (mode.Expression quote) c b bs = either_has (blank_piece (b ∷ bs)) (expression_piece quote (b ∷ bs)) (blank_has (b ∷ bs)) (expression_has quote b bs)
in_has (mode.Format quote) c b bs = format_has quote b bs

piece_has : (c : Context) (b : ℕ) (bs : List ℕ) → Has (piece_at c (b ∷ bs))
unfolding piece_at
piece_has c b bs = in_has c.mode c b bs

-- ---- all pieces of a text

pub record Made (a : Place) (text : List ℕ) : Type 0 where
  pub pieces : List Piece
  pub is : IsMadeOf a text pieces

shorter : (n k b : ℕ) (bs : List ℕ) → length (b ∷ bs) ≤ suc n → 0 < k → length (drop k (b ∷ bs)) ≤ n
shorter n zero b bs h k = absurd (omega arith)
shorter n (suc k) b bs h p = dropped k bs (omega (arith, h))
  where
    dropped : (k : ℕ) (xs : List ℕ) → length xs ≤ n → length (drop k xs) ≤ n
    dropped zero xs h = h
    dropped (suc k) [] h = h
    dropped (suc k) (x ∷ xs) h = dropped k xs (omega (arith, h))

some_made : (n : ℕ) (a : Place) (text : List ℕ) → length text ≤ n → Made a text
some_made n a [] h = record { pieces = []; is = refl }
some_made zero a (b ∷ bs) h = absurd (omega arith)
some_made (suc n) a (b ∷ bs) h =
    let x : Front = piece_at (context_of a) (b ∷ bs) in
    let m = some_made n (place_after a x.0) (drop x.1 (b ∷ bs)) (shorter n x.1 b bs h (piece_has (context_of a) b bs)) in
    record { pieces = x.0 ∷ m.pieces; is = (omega arith, refl, m.is) }

-- from any place on a text is made of pieces
pub made : (a : Place) (text : List ℕ) → Made a text
made a text = some_made (length text) a text (omega arith)

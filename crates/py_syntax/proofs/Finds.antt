-- A piece that stands at a place is the one that is found there.
use Rattle.std.proofs.Common.{◌≡◌, ◌≢◌, ◌⊎◌, inl, inr, ℕ, zero, suc, ◌+◌, ◌-◌, ◌<◌, Bool, true, false, not, ◌==◌, ◌&&◌, ◌||◌, List, [], ◌∷◌, ◌++◌, length, take, drop, Option, None, Some, refl, sym, ap, subst, ◌∙◌, arith, append_assoc, length-append}
use Rattle.std.proofs.Math.Seq.{take-append_seam, drop-append_seam}
use Rattle.std.specs.Prelude.{if◌then◌else◌, slice_index, IfSome}
use Rattle.std.specs.List.{take_while, list_all, list_any}
use Rattle.std.specs.Str.{bytes_eq}
use Rattle.std.proofs.lemmas.List.Sums.{take_while-cons}
use Rattle.std.proofs.lemmas.Bool.Decides.{nat_tests}
use Rattle.py_syntax.specs.Bytes.{is_digit, is_letter, is_word_byte, is_number_byte, is_quote, is_brace, is_printable, are_printable, not_line_feed}
use Rattle.py_syntax.specs.Keywords.{keyword_of}
use Rattle.py_syntax.specs.Numbers.{base_of, number_of}
use Rattle.py_syntax.specs.Marks.{bracket_of}
use Rattle.py_syntax.specs.Texts.{said_from, literal_len}
use Rattle.py_syntax.specs.Pieces.{Front, or_else, piece_at, piece_in, blank_piece, code_piece, expression_piece, format_piece, word_or_mark, word_piece, number_piece, mark_piece, operator_piece, other_piece, quoted_piece, docstring_piece, text_piece, text_until, literal_piece}
use Rattle.py_syntax.specs.Places.{Place, context_of, place_after}
use Rattle.py_syntax.specs.Found.{IsMadeOf}
use Rattle.py_syntax.specs.Items.{Item, plain, escaped, bytes_of, said_by, AreInText, AreInLiteral}
use Rattle.py_syntax.specs.Standing.{EndsBefore, IsOfCode, IsLongest, IsDocstring, IsNoDocstring, StaysOpenOnLine, is_formless, operator_bytes, open_bytes, close_bytes, word_token, number_token, text_token, literal_token, begins_format, Stands}
use Rattle.py_syntax.specs.Standing as standing
use Rattle.py_syntax.specs.Spelled.{IsSpelled}
use Rattle.py_syntax.specs.declared.operator.Operator.{Operator}
use Rattle.py_syntax.specs.declared.operator.Bracket.{Bracket}
use Rattle.py_syntax.specs.declared.operator.Bracket.TheVariants.{Round, Square}
use Rattle.py_syntax.specs.declared.token.Token.{Token}
use Rattle.py_syntax.specs.declared.token.Token.TheVariants as token
use Rattle.py_syntax.specs.declared.piece.Piece.{Piece}
use Rattle.py_syntax.specs.declared.piece.Piece.TheVariants as piece
use Rattle.py_syntax.specs.declared.piece.Mode.{Mode}
use Rattle.py_syntax.specs.declared.piece.Mode.TheVariants as mode
use Rattle.py_syntax.specs.declared.piece.Context.{Context}
use Rattle.py_syntax.proofs.Tests.{equal, different, not_equal, same, both, one_of, neither, not_true, to_false, any_all, apart, base_of_front}
use Rattle.py_syntax.proofs.MarkLaws.{at_front, next_is, specials, is_special, is_none, may_mark, mark_first, mark_found, formless_found, no_operator}
use Rattle.py_syntax.proofs.QuoteLaws.{text_closed, text_open, said_items, said_literal, said_cut, literal_more, literal_ends, cut_ends, goes_on}
use Rattle.py_syntax.proofs.DocstringLaws.{finds_docstring}
use Rattle.py_syntax.proofs.Stands.{IsDocstringFront, docstring_stands}

-- The piece at the front of this text is found, and is as long as these bytes.
abbrev Finds : Context → Piece → List ℕ → List ℕ → Type 0
Finds c p bytes rest = piece_at c (bytes ++ rest) ≡ (p, length bytes)

by_bytes : (c : Context) (p q : Piece) (bytes xs rest : List ℕ) → p ≡ q → bytes ≡ xs → Finds c q xs rest → Finds c p bytes rest
by_bytes c p q bytes xs rest f e h =
    ap (λ (t : List ℕ). piece_at c (t ++ rest)) e ∙ h ∙ sym (ap (λ (x : Piece). (x, length bytes)) f ∙ ap (λ (t : List ℕ). (q, length t)) e)

in_mode : (c : Context) (r : Mode) (text : List ℕ) (x : Front) → c.mode ≡ r → piece_in r c text ≡ x → piece_at c text ≡ x
unfolding piece_at
in_mode c r text x e h = ap (λ (s : Mode). piece_in s c text) e ∙ h

-- Where code is read: in two modes.
of_code : (c : Context) (text : List ℕ) (x : Front) → IsOfCode c.mode → piece_in mode.Code c text ≡ x → ((quote : ℕ) → is_quote quote ≡ true → piece_in (mode.Expression quote) c text ≡ x) → piece_at c text ≡ x
of_code c text x code f g = go c.mode refl code
  where
    go : (r : Mode) → c.mode ≡ r → IsOfCode r → piece_at c text ≡ x
    go mode.Code e k = in_mode c mode.Code text x e f
    go (mode.Expression quote) e k = in_mode c (mode.Expression quote) text x e (g quote k)
    go (mode.Format quote) e k = absurd k

turn : (a b : ℕ) → (a == b) ≡ false → (b == a) ≡ false
turn a b e = not_equal b a (λ f. different a b e (sym f))

-- a byte that passes isn't one that doesn't
differs : (t : ℕ → Bool) (n b : ℕ) → t b ≡ true → t n ≡ false → (b == n) ≡ false
differs t n b h k = to_false (b == n) (λ e. let q : b ≡ n = equal b n e in not_true (t n) k (rw q at h))

misses : (t : ℕ → Bool) (n b : ℕ) → t b ≡ false → t n ≡ true → (b == n) ≡ false
misses t n b h k = to_false (b == n) (λ e. let q : b ≡ n = equal b n e in not_true (t n) (rw q at h) k)

no_quote : (b : ℕ) → (b == 34) ≡ false → (b == 39) ≡ false → is_quote b ≡ false
no_quote b e f = rw (e, f) refl

-- A byte with which no blank, comment or text begins, and that ends no part.
record IsOrdinary (b : ℕ) : Type 0 where
  feed : (b == 10) ≡ false
  return : (b == 13) ≡ false
  space : (b == 32) ≡ false
  tab : (b == 9) ≡ false
  hash : (b == 35) ≡ false
  quote : is_quote b ≡ false
  brace : (b == 125) ≡ false
  backslash : (b == 92) ≡ false

ordinary_of : (b : ℕ) → is_special b ≡ false → IsOrdinary b
ordinary_of b h =
    let a1 = neither (10 == b) _ h in
    let a2 = neither (13 == b) _ a1.1 in
    let a3 = neither (32 == b) _ a2.1 in
    let a4 = neither (9 == b) _ a3.1 in
    let a5 = neither (35 == b) _ a4.1 in
    let a6 = neither (34 == b) _ a5.1 in
    let a7 = neither (39 == b) _ a6.1 in
    let a8 = neither (125 == b) _ a7.1 in
    let a9 = neither (92 == b) false a8.1 in
    record {
      feed = turn 10 b a1.0;
      return = turn 13 b a2.0;
      space = turn 32 b a3.0;
      tab = turn 9 b a4.0;
      hash = turn 35 b a5.0;
      quote = no_quote b (turn 34 b a6.0) (turn 39 b a7.0);
      brace = turn 125 b a8.0;
      backslash = turn 92 b a9.0;
    }

ordinary_by : (t : ℕ → Bool) (b : ℕ) → t b ≡ true → list_any t specials ≡ false → IsOrdinary b
ordinary_by t b h k = ordinary_of b (apart t b specials h k)

blank_none : (b : ℕ) (bs : List ℕ) → IsOrdinary b → blank_piece (b ∷ bs) ≡ None
unfolding blank_piece
blank_none b bs o = rw (o.feed, o.return, o.space) refl

code_ordinary : (c : Context) (b : ℕ) (bs : List ℕ) → IsOrdinary b → ((b == 102) && is_quote (slice_index bs 0)) ≡ false → code_piece c (b ∷ bs) ≡ word_or_mark (b ∷ bs)
unfolding code_piece
code_ordinary c b bs o f = rw (o.tab, o.hash, o.quote, f) refl

part_ordinary : (quote b : ℕ) (bs : List ℕ) → is_quote quote ≡ true → IsOrdinary b → expression_piece quote (b ∷ bs) ≡ word_or_mark (b ∷ bs)
unfolding expression_piece
part_ordinary quote b bs h o =
    let e : (b == quote) ≡ false = turn quote b (differs is_quote b quote h o.quote) in
    rw (o.brace, e, o.backslash) refl

ordinary : (c : Context) (b : ℕ) (bs : List ℕ) (x : Front) → IsOfCode c.mode → IsOrdinary b → (c.mode ≡ mode.Code → ((b == 102) && is_quote (slice_index bs 0)) ≡ false) → word_or_mark (b ∷ bs) ≡ x
    → piece_at c (b ∷ bs) ≡ x
ordinary c b bs x code o f e = go c.mode refl code
  where
    go : (r : Mode) → c.mode ≡ r → IsOfCode r → piece_at c (b ∷ bs) ≡ x
    go mode.Code k h = in_mode c mode.Code (b ∷ bs) x k (ap (λ (y : Option Front). or_else y (code_piece c (b ∷ bs))) (blank_none b bs o) ∙ code_ordinary c b bs o (f k) ∙ e)
    go (mode.Expression quote) k h = in_mode c (mode.Expression quote) (b ∷ bs) x k (ap (λ (y : Option Front). or_else y (expression_piece quote (b ∷ bs))) (blank_none b bs o) ∙ part_ordinary quote b bs h o ∙ e)
    go (mode.Format quote) k h = absurd h

-- Words.

taken : (p : ℕ → Bool) (front rest : List ℕ) → list_all p front ≡ true → EndsBefore p rest → take_while p (front ++ rest) ≡ front
taken p [] [] h e = refl
taken p [] (b ∷ bs) h e = take_while-cons p b bs ∙ rw e refl
taken p (x ∷ xs) rest h e =
    let t = both (p x) (list_all p xs) h in
    take_while-cons p x (xs ++ rest) ∙ rw t.0 (ap (λ (ys : List ℕ). x ∷ ys) (taken p xs rest t.1 e))

word_no_quote : (b : ℕ) → is_word_byte b ≡ true → is_quote b ≡ false
word_no_quote b h = no_quote b (differs is_word_byte 34 b h refl) (differs is_word_byte 39 b h refl)

letter_no_digit : (b : ℕ) → is_letter b ≡ true → is_digit b ≡ false
letter_no_digit b e = grind (arith, nat_tests)

first_of : (t : Bool) (x y : Front) → t ≡ true → (if t then x else y) ≡ x
first_of true x y e = refl
first_of false x y e = cc

second_of : (t : Bool) (x y : Front) → t ≡ false → (if t then x else y) ≡ y
second_of false x y e = refl
second_of true x y e = cc

word_found : (b : ℕ) (bs rest : List ℕ) → is_letter b ≡ true → list_all is_word_byte (b ∷ bs) ≡ true → EndsBefore is_word_byte rest
    → word_or_mark (b ∷ (bs ++ rest)) ≡ (piece.Token (word_token (b ∷ bs) (keyword_of (b ∷ bs))) true, length (b ∷ bs))
unfolding word_or_mark word_piece
word_found b bs rest h k e =
    second_of (is_digit b) (number_piece (b ∷ (bs ++ rest))) _ (letter_no_digit b h)
    ∙ first_of (is_letter b) (word_piece (b ∷ (bs ++ rest))) (mark_piece (b ∷ (bs ++ rest))) h
    ∙ ap (λ (w : List ℕ). (piece.Token (word_token w (keyword_of w)) true, length w)) (taken is_word_byte (b ∷ bs) rest k e)

finds_word : (c : Context) (bytes rest : List ℕ) → IsOfCode c.mode → is_letter (slice_index bytes 0) ≡ true → list_all is_word_byte bytes ≡ true → EndsBefore is_word_byte rest → begins_format c.mode bytes rest ≡ false
    → Finds c (piece.Token (word_token bytes (keyword_of bytes)) true) bytes rest
finds_word c [] rest code h k e f = cc
finds_word c (b ∷ bs) rest code h k e f =
    ordinary c b (bs ++ rest) _ code (ordinary_by is_letter b h refl) (λ r. no_format bs (both (is_word_byte b) (list_all is_word_byte bs) k).1 (subst (λ (s : Mode). begins_format s (b ∷ bs) rest ≡ false) r f)) (word_found b bs rest h k e)
  where
    no_format : (ds : List ℕ) → list_all is_word_byte ds ≡ true → (bytes_eq (b ∷ ds) (102 ∷ []) && is_quote (slice_index rest 0)) ≡ false → ((b == 102) && is_quote (slice_index (ds ++ rest) 0)) ≡ false
    no_format [] l g = go (b == 102) (is_quote (slice_index rest 0)) g
      where
        go : (x y : Bool) → ((x && true) && y) ≡ false → (x && y) ≡ false
        go true y g = g
        go false y g = refl
    no_format (d ∷ ds) l g = go (b == 102) (is_quote d) (word_no_quote d (both (is_word_byte d) (list_all is_word_byte ds) l).0)
      where
        go : (x y : Bool) → y ≡ false → (x && y) ≡ false
        go true y g = g
        go false y g = refl

number_found : (b : ℕ) (bs rest : List ℕ) → is_digit b ≡ true → list_all (is_number_byte (base_of (b ∷ bs))) (b ∷ bs) ≡ true → EndsBefore (is_number_byte (base_of (b ∷ bs))) rest
    → word_or_mark (b ∷ (bs ++ rest)) ≡ (piece.Token (number_token (number_of (b ∷ bs))) true, length (b ∷ bs))
unfolding word_or_mark number_piece
number_found b bs rest h k e =
    let base : base_of (b ∷ (bs ++ rest)) ≡ base_of (b ∷ bs) = base_of_front (base_of (b ∷ bs)) (b ∷ bs) rest (omega arith) e in
    first_of (is_digit b) (number_piece (b ∷ (bs ++ rest))) _ h
    ∙ ap (λ (n : ℕ). (piece.Token (number_token (number_of (take_while (is_number_byte n) (b ∷ (bs ++ rest))))) true, length (take_while (is_number_byte n) (b ∷ (bs ++ rest))))) base
    ∙ ap (λ (w : List ℕ). (piece.Token (number_token (number_of w)) true, length w)) (taken (is_number_byte (base_of (b ∷ bs))) (b ∷ bs) rest k e)

no_letter_f : (t : ℕ → Bool) (b : ℕ) (x : Bool) → t b ≡ true → t 102 ≡ false → ((b == 102) && x) ≡ false
no_letter_f t b x h k = rw (differs t 102 b h k) refl

finds_number : (c : Context) (bytes rest : List ℕ) → IsOfCode c.mode → is_digit (slice_index bytes 0) ≡ true → list_all (is_number_byte (base_of bytes)) bytes ≡ true → EndsBefore (is_number_byte (base_of bytes)) rest
    → Finds c (piece.Token (number_token (number_of bytes)) true) bytes rest
finds_number c [] rest code h k e = cc
finds_number c (b ∷ bs) rest code h k e =
    ordinary c b (bs ++ rest) _ code (ordinary_by is_digit b h refl) (λ r. no_letter_f is_digit b _ h refl) (number_found b bs rest h k e)

-- Brackets and marks.

finds_open : (c : Context) (b : Bracket) (rest : List ℕ) → IsOfCode c.mode → Finds c (piece.Token (token.Open b) true) (open_bytes b) rest
unfolding word_or_mark mark_piece
finds_open c Round rest code = ordinary c 40 rest _ code (ordinary_of 40 refl) (λ r. refl) refl
finds_open c Square rest code = ordinary c 91 rest _ code (ordinary_of 91 refl) (λ r. refl) refl

finds_close : (c : Context) (b : Bracket) (rest : List ℕ) → IsOfCode c.mode → Finds c (piece.Token (token.Close b) true) (close_bytes b) rest
unfolding word_or_mark mark_piece
finds_close c Round rest code = ordinary c 41 rest _ code (ordinary_of 41 refl) (λ r. refl) refl
finds_close c Square rest code = ordinary c 93 rest _ code (ordinary_of 93 refl) (λ r. refl) refl

none_is : (o : Option Token) → is_none o ≡ true → o ≡ None
none_is None e = refl
none_is (Some t) e = cc

-- what may_mark says
record MayMark (b : ℕ) : Type 0 where
  printable : is_printable b ≡ true
  ordinary : IsOrdinary b
  digit : is_digit b ≡ false
  letter : is_letter b ≡ false
  bracket : bracket_of b ≡ None

not_so : (x : Bool) → not x ≡ true → x ≡ false
not_so true e = cc
not_so false e = refl

may_mark_says : (b : ℕ) → may_mark b ≡ true → MayMark b
may_mark_says b h =
    let a1 = both _ (is_none (bracket_of b)) h in
    let a2 = both _ (not (is_letter b)) a1.0 in
    let a3 = both _ (not (is_digit b)) a2.0 in
    let a4 = both (is_printable b) (not (is_special b)) a3.0 in
    record {
      printable = a4.0;
      ordinary = ordinary_of b (not_so (is_special b) a4.1);
      digit = not_so (is_digit b) a3.1;
      letter = not_so (is_letter b) a2.1;
      bracket = none_is (bracket_of b) a1.1;
    }

-- a byte that is no digit, letter or bracket, and what is found of a mark
mark_word : (b : ℕ) (bs : List ℕ) (o : Option (Operator × ℕ)) → is_digit b ≡ false → is_letter b ≡ false → bracket_of b ≡ None → at_front (b ∷ bs) ≡ o → word_or_mark (b ∷ bs) ≡ operator_piece b o
unfolding word_or_mark mark_piece
mark_word b bs o d l k e = rw (d, l, k) (ap (operator_piece b) e)

finds_front : (c : Context) (b : ℕ) (bs : List ℕ) (x : Front) → IsOfCode c.mode → may_mark b ≡ true → (o : Option (Operator × ℕ)) → at_front (b ∷ bs) ≡ o → operator_piece b o ≡ x → piece_at c (b ∷ bs) ≡ x
finds_front c b bs x code h o e f =
    let m = may_mark_says b h in
    ordinary c b bs x code m.ordinary (λ r. no_letter_f may_mark b _ h refl) (mark_word b bs o m.digit m.letter m.bracket e ∙ f)

mark_positive : (op : Operator) (behind : List ℕ) → 0 < slice_index (operator_bytes op ++ behind) 0
mark_positive op behind = go (slice_index (operator_bytes op ++ behind) 0) (mark_first op behind)
  where
    go : (b : ℕ) → may_mark b ≡ true → 0 < b
    go zero e = cc
    go (suc b) e = omega arith

finds_mark : (c : Context) (op : Operator) (rest : List ℕ) → IsOfCode c.mode → IsLongest (operator_bytes op) rest → Finds c (piece.Token (token.Operator op) true) (operator_bytes op) rest
finds_mark c op rest code longest =
    let b : ℕ = slice_index (operator_bytes op ++ rest) 0 in
    let bs : List ℕ = drop 1 (operator_bytes op ++ rest) in
    let split : operator_bytes op ++ rest ≡ b ∷ bs = next_is (operator_bytes op ++ rest) (mark_positive op rest) in
    ap (piece_at c) split ∙ finds_front c b bs _ code (mark_first op rest) (Some (op, length (operator_bytes op))) (mark_found op b bs rest (sym split) longest) refl

finds_formless : (c : Context) (b : ℕ) (rest : List ℕ) → IsOfCode c.mode → is_formless b ≡ true → IsLongest (b ∷ []) rest → Finds c (piece.Token token.Invalid true) (b ∷ []) rest
finds_formless c b rest code h longest =
    let m : may_mark b ≡ true = any_all may_mark b (33 ∷ 36 ∷ 47 ∷ 59 ∷ 63 ∷ 96 ∷ 123 ∷ []) refl h in
    let k = may_mark_says b m in
    finds_front c b rest _ code m None (formless_found b rest h longest) (rw (k.printable, k.ordinary.backslash) refl)

-- A special byte that begins no mark.
special_word : (b : ℕ) (bs : List ℕ) (x : Front) → is_digit b ≡ false → is_letter b ≡ false → bracket_of b ≡ None → may_mark b ≡ false → other_piece b ≡ x → word_or_mark (b ∷ bs) ≡ x
special_word b bs x d l k m e = mark_word b bs None d l k (no_operator b bs m) ∙ e

finds_closing_brace : (c : Context) (rest : List ℕ) → c.mode ≡ mode.Code → Finds c (piece.Token token.Invalid true) (125 ∷ []) rest
unfolding blank_piece code_piece
finds_closing_brace c rest e = in_mode c mode.Code (125 ∷ rest) _ e (special_word 125 rest _ refl refl refl refl refl)

finds_backslash : (c : Context) (rest : List ℕ) → c.mode ≡ mode.Code → Finds c piece.BadByte (92 ∷ []) rest
unfolding blank_piece code_piece
finds_backslash c rest e = in_mode c mode.Code (92 ∷ rest) _ e (special_word 92 rest _ refl refl refl refl refl)

finds_hash : (c : Context) (quote : ℕ) (rest : List ℕ) → c.mode ≡ mode.Expression quote → is_quote quote ≡ true → Finds c (piece.Token token.Invalid true) (35 ∷ []) rest
unfolding blank_piece expression_piece
finds_hash c quote rest e h =
    let k : (35 == quote) ≡ false = turn quote 35 (differs is_quote 35 quote h refl) in
    in_mode c (mode.Expression quote) (35 ∷ rest) _ e (rw k (special_word 35 rest _ refl refl refl refl refl))

finds_other_quote : (c : Context) (quote b : ℕ) (rest : List ℕ) → c.mode ≡ mode.Expression quote → is_quote b ≡ true → b ≢ quote → Finds c (piece.Token token.Invalid true) (b ∷ []) rest
unfolding blank_piece expression_piece
finds_other_quote c quote b rest e h n = go (one_of (b == 34) (b == 39) h)
  where
    of : (d : ℕ) → (d == quote) ≡ false → piece_in (mode.Expression quote) c (d ∷ rest) ≡ (piece.Token token.Invalid true, 1) → piece_at c (d ∷ rest) ≡ (piece.Token token.Invalid true, 1)
    of d k f = in_mode c (mode.Expression quote) (d ∷ rest) _ e f

    go : ((b == 34) ≡ true) ⊎ ((b == 39) ≡ true) → piece_at c (b ∷ rest) ≡ (piece.Token token.Invalid true, 1)
    go (inl k) =
        let q : b ≡ 34 = equal b 34 k in
        let m : (34 == quote) ≡ false = not_equal 34 quote (λ f. n (q ∙ f)) in
        rw q (of 34 m (rw m (special_word 34 rest _ refl refl refl refl refl)))
    go (inr k) =
        let q : b ≡ 39 = equal b 39 k in
        let m : (39 == quote) ≡ false = not_equal 39 quote (λ f. n (q ∙ f)) in
        rw q (of 39 m (rw m (special_word 39 rest _ refl refl refl refl refl)))

-- Bytes that have no place.

digit_printable : (b : ℕ) → is_printable b ≡ false → is_digit b ≡ false
digit_printable b e = grind (arith, nat_tests)

letter_printable : (b : ℕ) → is_printable b ≡ false → is_letter b ≡ false
letter_printable b e = grind (arith, nat_tests)

bracket_printable : (b : ℕ) → is_printable b ≡ false → bracket_of b ≡ None
bracket_printable b e = rw (misses is_printable 40 b e refl, misses is_printable 41 b e refl, misses is_printable 91 b e refl, misses is_printable 93 b e refl) refl

bad_word : (b : ℕ) (bs : List ℕ) → is_printable b ≡ false → word_or_mark (b ∷ bs) ≡ (piece.BadByte, 1)
bad_word b bs e = special_word b bs _ (digit_printable b e) (letter_printable b e) (bracket_printable b e) (rw e refl) (rw e refl)

finds_bad : (c : Context) (b : ℕ) (rest : List ℕ) → IsOfCode c.mode → is_printable b ≡ false → b ≢ 10 → (b ≡ 13 → EndsBefore (λ d. d == 10) rest) → (b ≡ 9 → c.mode ≡ mode.Code → c.at_front ≡ true → ⊥) → Finds c piece.BadByte (b ∷ []) rest
unfolding blank_piece code_piece expression_piece
finds_bad c b rest code e f g k = go c.mode refl code
  where
    feed : (b == 10) ≡ false
    feed = not_equal b 10 f

    return : ((b == 13) && (slice_index rest 0 == 10)) ≡ false
    return = to_false _ (λ t. let u = both (b == 13) (slice_index rest 0 == 10) t in behind rest (g (equal b 13 u.0)) u.1)
      where
        behind : (bs : List ℕ) → EndsBefore (λ d. d == 10) bs → (slice_index bs 0 == 10) ≡ true → ⊥
        behind [] h t = not_true false refl t
        behind (d ∷ ds) h t = not_true (d == 10) h t

    space : (b == 32) ≡ false
    space = misses is_printable 32 b e refl

    go : (r : Mode) → c.mode ≡ r → IsOfCode r → piece_at c (b ∷ rest) ≡ (piece.BadByte, 1)
    go mode.Code r h =
        let tab : ((b == 9) && c.at_front) ≡ false = to_false _ (λ t. let u = both (b == 9) c.at_front t in k (equal b 9 u.0) r u.1) in
        let quote : is_quote b ≡ false = no_quote b (misses is_printable 34 b e refl) (misses is_printable 39 b e refl) in
        in_mode c mode.Code (b ∷ rest) _ r (rw (feed, return, space, tab, misses is_printable 35 b e refl, quote, misses is_printable 102 b e refl) (bad_word b rest e))
    go (mode.Expression quote) r h =
        let q : (b == quote) ≡ false = misses is_printable quote b e (quote_printable quote h) in
        in_mode c (mode.Expression quote) (b ∷ rest) _ r (rw (feed, return, space, misses is_printable 125 b e refl, q, misses is_printable 92 b e refl) (bad_word b rest e))
      where
        quote_printable : (d : ℕ) → is_quote d ≡ true → is_printable d ≡ true
        quote_printable d h = grind (arith, nat_tests)
    go (mode.Format quote) r h = absurd h

-- Blanks and comments.

finds_feed : (c : Context) (rest : List ℕ) → Finds c piece.LineEnd (10 ∷ []) rest
unfolding blank_piece format_piece
finds_feed c rest = go c.mode refl
  where
    go : (r : Mode) → c.mode ≡ r → piece_at c (10 ∷ rest) ≡ (piece.LineEnd, 1)
    go mode.Code e = in_mode c mode.Code (10 ∷ rest) _ e refl
    go (mode.Expression quote) e = in_mode c (mode.Expression quote) (10 ∷ rest) _ e refl
    go (mode.Format quote) e = in_mode c (mode.Format quote) (10 ∷ rest) _ e refl

finds_return : (c : Context) (rest : List ℕ) → IsOfCode c.mode → Finds c piece.LineEnd (13 ∷ 10 ∷ []) rest
unfolding blank_piece
finds_return c rest code = of_code c (13 ∷ 10 ∷ rest) _ code refl (λ quote h. refl)

finds_space : (c : Context) (rest : List ℕ) → IsOfCode c.mode → Finds c piece.Space (32 ∷ []) rest
unfolding blank_piece
finds_space c rest code = of_code c (32 ∷ rest) _ code refl (λ quote h. refl)

finds_tab : (c : Context) (rest : List ℕ) → c.mode ≡ mode.Code → c.at_front ≡ true → Finds c piece.Tab (9 ∷ []) rest
unfolding blank_piece code_piece
finds_tab c rest e f = in_mode c mode.Code (9 ∷ rest) _ e (rw f refl)

finds_comment : (c : Context) (body rest : List ℕ) → c.mode ≡ mode.Code → list_all not_line_feed body ≡ true → EndsBefore not_line_feed rest → Finds c piece.Comment (35 ∷ body) rest
unfolding blank_piece code_piece
finds_comment c body rest e h k = in_mode c mode.Code (35 ∷ (body ++ rest)) _ e (ap (λ (xs : List ℕ). (piece.Comment, length xs)) (taken not_line_feed (35 ∷ body) rest h k))

-- Texts and docstrings.

quoted : (c : Context) (quote : ℕ) (bs : List ℕ) (x : Front) → c.mode ≡ mode.Code → is_quote quote ≡ true → quoted_piece c.is_fresh (quote ∷ bs) ≡ x → piece_at c (quote ∷ bs) ≡ x
unfolding blank_piece code_piece
quoted c quote bs x e h k =
    in_mode c mode.Code (quote ∷ bs) x e
    (rw (differs is_quote 10 quote h refl, differs is_quote 13 quote h refl, differs is_quote 32 quote h refl, differs is_quote 9 quote h refl, differs is_quote 35 quote h refl, h) k)

no_docstring : (c : Context) (quote : ℕ) (bs : List ℕ) → is_quote quote ≡ true → IsNoDocstring c (quote ∷ bs) → quoted_piece c.is_fresh (quote ∷ bs) ≡ text_piece (quote ∷ bs)
unfolding quoted_piece
no_docstring c quote bs h k = go c.is_fresh refl
  where
    none : c.is_fresh ≡ true → (o : Option Front) → IfSome o (IsDocstringFront (quote ∷ bs)) → or_else o (text_piece (quote ∷ bs)) ≡ text_piece (quote ∷ bs)
    none e None f = refl
    none e (Some x) f = absurd (k e x.0 f.bytes f.rest f.split f.stands)

    go : (fresh : Bool) → c.is_fresh ≡ fresh → (if fresh then or_else (docstring_piece (quote ∷ bs)) (text_piece (quote ∷ bs)) else text_piece (quote ∷ bs)) ≡ text_piece (quote ∷ bs)
    go true e = none e (docstring_piece (quote ∷ bs)) (docstring_stands quote bs h)
    go false e = refl

text_found : (quote : ℕ) (items : List Item) (rest : List ℕ) → is_quote quote ≡ true → AreInText quote items
    → text_piece (quote ∷ (bytes_of items ++ quote ∷ rest)) ≡ (piece.Token (text_token (said_by items)) (are_printable (bytes_of items)), length (quote ∷ (bytes_of items ++ quote ∷ [])))
unfolding text_piece
text_found quote items rest h k =
    let n : length (bytes_of items) + 1 - 1 ≡ length (bytes_of items) = omega arith in
    let body : take (length (bytes_of items) + 1 - 1) (bytes_of items ++ quote ∷ rest) ≡ bytes_of items = ap (λ (i : ℕ). take i (bytes_of items ++ quote ∷ rest)) n ∙ take-append_seam (bytes_of items) (quote ∷ rest) in
    let size : length (bytes_of items) + 1 + 1 ≡ length (quote ∷ (bytes_of items ++ quote ∷ [])) = simp length-append (omega arith) in
    rw (text_closed quote items rest h k, body, said_items quote items k, size) refl

finds_text : (c : Context) (quote : ℕ) (items : List Item) (rest : List ℕ) → c.mode ≡ mode.Code → is_quote quote ≡ true → AreInText quote items → IsNoDocstring c ((quote ∷ (bytes_of items ++ quote ∷ [])) ++ rest)
    → Finds c (piece.Token (text_token (said_by items)) (are_printable (bytes_of items))) (quote ∷ (bytes_of items ++ quote ∷ [])) rest
finds_text c quote items rest e h k alone =
    let split : (bytes_of items ++ quote ∷ []) ++ rest ≡ bytes_of items ++ quote ∷ rest = append_assoc (bytes_of items) (quote ∷ []) rest in
    quoted c quote _ _ e h
    (no_docstring c quote _ h alone ∙ ap (λ (xs : List ℕ). text_piece (quote ∷ xs)) split ∙ text_found quote items rest h k)

head_is : (a b : ℕ) (xs ys : List ℕ) → a ∷ xs ≡ b ∷ ys → a ≡ b
head_is a b xs ys e = cc

tail_is : (a b : ℕ) (xs ys : List ℕ) → a ∷ xs ≡ b ∷ ys → xs ≡ ys
tail_is a b xs ys e = cc

-- A text that stays open on its line is no docstring.
open_alone : (c : Context) (quote : ℕ) (bs : List ℕ) → StaysOpenOnLine quote bs → IsNoDocstring c (quote ∷ bs)
open_alone c quote bs stays fresh p bytes rest split d = go d
  where
    three : (more : List ℕ) → quote ∷ bs ≡ 34 ∷ 34 ∷ more → ⊥
    three more e = stays [] more tt (tail_is quote 34 bs (34 ∷ more) e ∙ ap (λ (x : ℕ). x ∷ more) (sym (head_is quote 34 bs (34 ∷ more) e)))

    go : IsDocstring p bytes rest → ⊥
    go (standing.short q items h k e empty f) =
        let s : quote ∷ bs ≡ q ∷ (bytes_of items ++ q ∷ rest) = split ∙ ap (λ (xs : List ℕ). xs ++ rest) e ∙ ap (λ (xs : List ℕ). q ∷ xs) (append_assoc (bytes_of items) (q ∷ []) rest) in
        let r : quote ≡ q = head_is quote q bs _ s in
        stays items rest (subst (λ (x : ℕ). AreInText x items) (sym r) k) (tail_is quote q bs _ s ∙ ap (λ (x : ℕ). bytes_of items ++ x ∷ rest) (sym r))
    go (standing.long items k e empty f) = three _ (split ∙ ap (λ (xs : List ℕ). xs ++ rest) e)
    go (standing.endless body h e nothing f) = three _ (split ∙ ap (λ (xs : List ℕ). xs ++ rest) e)

finds_open_text : (c : Context) (quote : ℕ) (body rest : List ℕ) → c.mode ≡ mode.Code → is_quote quote ≡ true → list_all not_line_feed body ≡ true → EndsBefore not_line_feed rest → StaysOpenOnLine quote (body ++ rest)
    → Finds c piece.OpenText (quote ∷ body) rest
unfolding text_piece
finds_open_text c quote body rest e h k ends stays =
    let feed : (quote == 10) ≡ false = differs is_quote 10 quote h refl in
    let all : list_all not_line_feed (quote ∷ body) ≡ true = rw (feed, k) refl in
    quoted c quote (body ++ rest) _ e h
    (no_docstring c quote (body ++ rest) h (open_alone c quote (body ++ rest) stays)
    ∙ ap (λ (o : Option ℕ). text_until (quote ∷ (body ++ rest)) o) (text_open quote (body ++ rest) stays)
    ∙ ap (λ (xs : List ℕ). (piece.OpenText, length xs)) (taken not_line_feed (quote ∷ body) rest all ends))

docstring_found : (c : Context) (b : ℕ) (bs : List ℕ) (x : Front) → c.mode ≡ mode.Code → c.is_fresh ≡ true → is_quote b ≡ true → docstring_piece (b ∷ bs) ≡ Some x → piece_at c (b ∷ bs) ≡ x
unfolding quoted_piece
docstring_found c b bs x e fresh h k = quoted c b bs x e h (rw (fresh, k) refl)

finds_docstrings : (c : Context) (p : Piece) (bytes rest : List ℕ) → c.mode ≡ mode.Code → c.is_fresh ≡ true → IsDocstring p bytes rest → Finds c p bytes rest
finds_docstrings c p bytes rest e fresh d = go d
  where
    by : (b : ℕ) (bs : List ℕ) → is_quote b ≡ true → bytes ++ rest ≡ b ∷ bs → Finds c p bytes rest
    by b bs h f = ap (piece_at c) f ∙ docstring_found c b bs (p, length bytes) e fresh h (finds_docstring (b ∷ bs) p bytes rest (sym f) d)

    go : IsDocstring p bytes rest → Finds c p bytes rest
    go (standing.short q items h k f empty g) = by q _ h (ap (λ (xs : List ℕ). xs ++ rest) f)
    go (standing.long items k f empty g) = by 34 _ refl (ap (λ (xs : List ℕ). xs ++ rest) f)
    go (standing.endless body h f nothing g) = by 34 _ refl (ap (λ (xs : List ℕ). xs ++ rest) f)

-- F-strings.

finds_start : (c : Context) (quote : ℕ) (rest : List ℕ) → c.mode ≡ mode.Code → is_quote quote ≡ true → Finds c (piece.FormatStart quote) (102 ∷ quote ∷ []) rest
unfolding blank_piece code_piece
finds_start c quote rest e h = in_mode c mode.Code (102 ∷ quote ∷ rest) _ e (rw h refl)

finds_end : (c : Context) (quote : ℕ) (rest : List ℕ) → c.mode ≡ mode.Format quote → is_quote quote ≡ true → Finds c piece.FormatEnd (quote ∷ []) rest
unfolding format_piece
finds_end c quote rest e h = in_mode c (mode.Format quote) (quote ∷ rest) _ e (rw (differs is_quote 10 quote h refl, same quote) refl)

not_the_quote : (n quote : ℕ) → is_quote quote ≡ true → is_quote n ≡ false → (n == quote) ≡ false
not_the_quote n quote h k = turn quote n (differs is_quote n quote h k)

finds_brace : (c : Context) (b quote : ℕ) (rest : List ℕ) → c.mode ≡ mode.Format quote → is_quote quote ≡ true → is_brace b ≡ true → Finds c (piece.Token (token.FormatText (b ∷ [])) true) (b ∷ b ∷ []) rest
unfolding format_piece
finds_brace c b quote rest e h k =
    in_mode c (mode.Format quote) (b ∷ b ∷ rest) _ e
    (rw (differs is_brace 10 b k refl, not_the_quote b quote h (no_quote b (differs is_brace 34 b k refl) (differs is_brace 39 b k refl)), k, same b) refl)

next_differs : (n : ℕ) (rest : List ℕ) → (n == 0) ≡ false → EndsBefore (λ d. d == n) rest → (n == slice_index rest 0) ≡ false
next_differs n [] z h = z
next_differs n (d ∷ ds) z h = turn d n h

finds_format_open : (c : Context) (quote : ℕ) (rest : List ℕ) → c.mode ≡ mode.Format quote → is_quote quote ≡ true → EndsBefore (λ b. b == 123) rest → Finds c piece.FormatOpen (123 ∷ []) rest
unfolding format_piece
finds_format_open c quote rest e h k = in_mode c (mode.Format quote) (123 ∷ rest) _ e (rw (not_the_quote 123 quote h refl, next_differs 123 rest refl k) refl)

finds_lone_brace : (c : Context) (quote : ℕ) (rest : List ℕ) → c.mode ≡ mode.Format quote → is_quote quote ≡ true → EndsBefore (λ b. b == 125) rest → Finds c (piece.Token token.Invalid true) (125 ∷ []) rest
unfolding format_piece
finds_lone_brace c quote rest e h k = in_mode c (mode.Format quote) (125 ∷ rest) _ e (rw (not_the_quote 125 quote h refl, next_differs 125 rest refl k) refl)

literal_front : (quote b : ℕ) (bs : List ℕ) → goes_on quote b ≡ true → format_piece quote (b ∷ bs) ≡ literal_piece (take (literal_len quote false (b ∷ bs)) (b ∷ bs))
unfolding format_piece
literal_front quote b bs h =
    let t = both (not (b == 10)) (not ((b == quote) || is_brace b)) h in
    let u = neither (b == quote) (is_brace b) (not_so ((b == quote) || is_brace b) t.1) in
    rw (not_so (b == 10) t.0, u.0, u.1) refl

plain_goes_on : (quote b : ℕ) → b ≢ 10 → b ≢ quote → is_brace b ≡ false → goes_on quote b ≡ true
plain_goes_on quote b e f g = rw (not_equal b 10 e, not_equal b quote f, g) refl

backslash_goes_on : (quote : ℕ) → is_quote quote ≡ true → goes_on quote 92 ≡ true
backslash_goes_on quote h = rw (not_the_quote 92 quote h refl) refl

-- the first byte of these items, or of what follows them
literal_first : (quote : ℕ) (items : List Item) (tail : List ℕ) → is_quote quote ≡ true → AreInLiteral quote items → (tail ≡ [] → bytes_of items ≢ []) → (0 < length tail → goes_on quote (slice_index tail 0) ≡ true)
    → (rest : List ℕ) → format_piece quote ((bytes_of items ++ tail) ++ rest) ≡ literal_piece (take (literal_len quote false ((bytes_of items ++ tail) ++ rest)) ((bytes_of items ++ tail) ++ rest))
literal_first quote [] [] h k some first rest = absurd (some refl refl)
literal_first quote [] (b ∷ bs) h k some first rest = literal_front quote b (bs ++ rest) (first (omega arith))
literal_first quote (plain b ∷ items) tail h k some first rest = literal_front quote b ((bytes_of items ++ tail) ++ rest) (plain_goes_on quote b k.0 k.2 k.3)
literal_first quote (escaped b ∷ items) tail h k some first rest = literal_front quote 92 (b ∷ ((bytes_of items ++ tail) ++ rest)) (backslash_goes_on quote h)

literal_by : (c : Context) (quote : ℕ) (bytes rest : List ℕ) (t : Token) → c.mode ≡ mode.Format quote
    → format_piece quote (bytes ++ rest) ≡ literal_piece (take (literal_len quote false (bytes ++ rest)) (bytes ++ rest)) → literal_len quote false (bytes ++ rest) ≡ length bytes
    → literal_token (said_from false bytes) ≡ t → Finds c (piece.Token t (are_printable bytes)) bytes rest
literal_by c quote bytes rest t e f size g =
    let front : take (literal_len quote false (bytes ++ rest)) (bytes ++ rest) ≡ bytes = ap (λ (n : ℕ). take n (bytes ++ rest)) size ∙ take-append_seam bytes rest in
    in_mode c (mode.Format quote) (bytes ++ rest) _ e (f ∙ ap (λ (xs : List ℕ). literal_piece xs) front ∙ ap (λ (u : Token). (piece.Token u (are_printable bytes), length bytes)) g)

append_none : (xs : List ℕ) → xs ++ [] ≡ xs
append_none [] = refl
append_none (x ∷ xs) = ap (λ (ys : List ℕ). x ∷ ys) (append_none xs)

finds_literal : (c : Context) (quote : ℕ) (items : List Item) (rest : List ℕ) → c.mode ≡ mode.Format quote → is_quote quote ≡ true → bytes_of items ≢ [] → AreInLiteral quote items → EndsBefore (goes_on quote) rest
    → Finds c (piece.Token (literal_token (said_by items)) (are_printable (bytes_of items))) (bytes_of items) rest
finds_literal c quote items rest e h some k ends =
    let first : format_piece quote (bytes_of items ++ rest) ≡ literal_piece (take (literal_len quote false (bytes_of items ++ rest)) (bytes_of items ++ rest)) =
    subst (λ (xs : List ℕ). format_piece quote (xs ++ rest) ≡ literal_piece (take (literal_len quote false (xs ++ rest)) (xs ++ rest))) (append_none (bytes_of items)) (literal_first quote items [] h k (λ z. some) (λ z. absurd (omega arith)) rest) in
    literal_by c quote (bytes_of items) rest _ e first
    (literal_more quote items rest h k ∙ ap (λ (n : ℕ). length (bytes_of items) + n) (literal_ends quote rest ends) ∙ (let z : length (bytes_of items) + 0 ≡ length (bytes_of items) = omega arith in z))
    (ap (λ (x : Option (List ℕ)). literal_token x) (said_literal quote items k))

finds_cut : (c : Context) (quote : ℕ) (items : List Item) (rest : List ℕ) → c.mode ≡ mode.Format quote → is_quote quote ≡ true → AreInLiteral quote items → EndsBefore not_line_feed rest
    → Finds c (piece.Token token.Invalid (are_printable (bytes_of items ++ 92 ∷ []))) (bytes_of items ++ 92 ∷ []) rest
finds_cut c quote items rest e h k ends =
    literal_by c quote (bytes_of items ++ 92 ∷ []) rest _ e (literal_first quote items (92 ∷ []) h k (λ z. absurd (no_byte z)) (λ z. backslash_goes_on quote h) rest)
    (ap (λ (xs : List ℕ). literal_len quote false xs) (append_assoc (bytes_of items) (92 ∷ []) rest) ∙ literal_more quote items (92 ∷ rest) h k ∙ ap (λ (n : ℕ). length (bytes_of items) + n) (cut_ends quote rest h ends) ∙ sym (length-append (bytes_of items) (92 ∷ [])))
    (ap (λ (x : Option (List ℕ)). literal_token x) (said_cut quote items k))
  where
    no_byte : ◌≡◌ {A = List ℕ} (92 ∷ []) [] → ⊥
    no_byte e = cc

finds_format_close : (c : Context) (quote : ℕ) (rest : List ℕ) → c.mode ≡ mode.Expression quote → Finds c piece.FormatClose (125 ∷ []) rest
unfolding blank_piece expression_piece
finds_format_close c quote rest e = in_mode c (mode.Expression quote) (125 ∷ rest) _ e refl

finds_format_cut : (c : Context) (quote : ℕ) (rest : List ℕ) → c.mode ≡ mode.Expression quote → is_quote quote ≡ true → Finds c piece.FormatCut (quote ∷ []) rest
unfolding blank_piece expression_piece
finds_format_cut c quote rest e h =
    in_mode c (mode.Expression quote) (quote ∷ rest) _ e
    (rw (differs is_quote 10 quote h refl, differs is_quote 13 quote h refl, differs is_quote 32 quote h refl, differs is_quote 125 quote h refl, same quote) refl)

finds_escape : (c : Context) (b quote : ℕ) (rest : List ℕ) → c.mode ≡ mode.Expression quote → is_quote quote ≡ true → b ≢ 10 → Finds c (piece.Token token.Invalid (is_printable b)) (92 ∷ b ∷ []) rest
unfolding blank_piece expression_piece
finds_escape c b quote rest e h k = in_mode c (mode.Expression quote) (92 ∷ b ∷ rest) _ e (rw (not_the_quote 92 quote h refl, not_equal b 10 k) refl)

finds_last_backslash : (c : Context) (quote : ℕ) (rest : List ℕ) → c.mode ≡ mode.Expression quote → is_quote quote ≡ true → EndsBefore not_line_feed rest → Finds c (piece.Token token.Invalid true) (92 ∷ []) rest
unfolding blank_piece expression_piece
finds_last_backslash c quote [] e h k = in_mode c (mode.Expression quote) (92 ∷ []) _ e (rw (not_the_quote 92 quote h refl) refl)
finds_last_backslash c quote (d ∷ ds) e h k = in_mode c (mode.Expression quote) (92 ∷ d ∷ ds) _ e (rw (not_the_quote 92 quote h refl, is_feed (d == 10) k) refl)
  where
    is_feed : (x : Bool) → not x ≡ false → x ≡ true
    is_feed true e = refl
    is_feed false e = cc

-- What stands is found.
finds : (c : Context) (p : Piece) (bytes rest : List ℕ) → Stands c p bytes rest → Finds c p bytes rest
finds c p bytes rest (standing.line_feed e f) = by_bytes c p _ bytes _ rest e f (finds_feed c rest)
finds c p bytes rest (standing.carriage_return k e f) = by_bytes c p _ bytes _ rest e f (finds_return c rest k)
finds c p bytes rest (standing.space k e f) = by_bytes c p _ bytes _ rest e f (finds_space c rest k)
finds c p bytes rest (standing.tab k l e f) = by_bytes c p _ bytes _ rest e f (finds_tab c rest k l)
finds c p bytes rest (standing.comment body k e f g i) = by_bytes c p _ bytes _ rest e f (finds_comment c body rest k g i)
finds c p bytes rest (standing.word k e f g i j) = by_bytes c p _ bytes bytes rest e refl (finds_word c bytes rest k f g i j)
finds c p bytes rest (standing.number k e f g i) = by_bytes c p _ bytes bytes rest e refl (finds_number c bytes rest k f g i)
finds c p bytes rest (standing.open_bracket b k e f) = by_bytes c p _ bytes _ rest e f (finds_open c b rest k)
finds c p bytes rest (standing.close_bracket b k e f) = by_bytes c p _ bytes _ rest e f (finds_close c b rest k)
finds c p bytes rest (standing.mark op k e f g) = by_bytes c p _ bytes _ rest e f (finds_mark c op rest k (subst (λ (xs : List ℕ). IsLongest xs rest) f g))
finds c p bytes rest (standing.no_form b k e f g i) = by_bytes c p _ bytes _ rest e f (finds_formless c b rest k g (subst (λ (xs : List ℕ). IsLongest xs rest) f i))
finds c p bytes rest (standing.closing_brace k e f) = by_bytes c p _ bytes _ rest e f (finds_closing_brace c rest k)
finds c p bytes rest (standing.hash_in_part quote k l e f) = by_bytes c p _ bytes _ rest e f (finds_hash c quote rest k l)
finds c p bytes rest (standing.quote_in_part b quote k l e f g i) = by_bytes c p _ bytes _ rest e f (finds_other_quote c quote b rest k g i)
finds c p bytes rest (standing.bad_byte b k e f g i j l) = by_bytes c p _ bytes _ rest e f (finds_bad c b rest k g i j l)
finds c p bytes rest (standing.backslash k e f) = by_bytes c p _ bytes _ rest e f (finds_backslash c rest k)
finds c p bytes rest (standing.text quote items k e f g i j) = by_bytes c p _ bytes _ rest e f (finds_text c quote items rest k g i (subst (λ (xs : List ℕ). IsNoDocstring c (xs ++ rest)) f j))
finds c p bytes rest (standing.open_text quote body k e f g i j l) = by_bytes c p _ bytes _ rest e f (finds_open_text c quote body rest k g i j l)
finds c p bytes rest (standing.docstring k l d) = finds_docstrings c p bytes rest k l d
finds c p bytes rest (standing.format_start quote k e f g) = by_bytes c p _ bytes _ rest e g (finds_start c quote rest k f)
finds c p bytes rest (standing.format_end quote k l e f) = by_bytes c p _ bytes _ rest e f (finds_end c quote rest k l)
finds c p bytes rest (standing.brace b quote k l e f g) = by_bytes c p _ bytes _ rest e g (finds_brace c b quote rest k l f)
finds c p bytes rest (standing.format_open quote k l e f g) = by_bytes c p _ bytes _ rest e f (finds_format_open c quote rest k l g)
finds c p bytes rest (standing.lone_brace quote k l e f g) = by_bytes c p _ bytes _ rest e f (finds_lone_brace c quote rest k l g)
finds c p bytes rest (standing.literal quote items k l e f g i j) =
    by_bytes c p _ bytes (bytes_of items) rest (e ∙ ap (λ (xs : List ℕ). piece.Token (literal_token (said_by items)) (are_printable xs)) f) f (finds_literal c quote items rest k l (λ z. g (f ∙ z)) i j)
finds c p bytes rest (standing.cut_literal quote items k l e f g i) =
    by_bytes c p _ bytes (bytes_of items ++ 92 ∷ []) rest (e ∙ ap (λ (xs : List ℕ). piece.Token token.Invalid (are_printable xs)) f) f (finds_cut c quote items rest k l g i)
finds c p bytes rest (standing.format_close quote k l e f) = by_bytes c p _ bytes _ rest e f (finds_format_close c quote rest k)
finds c p bytes rest (standing.format_cut quote k l e f) = by_bytes c p _ bytes _ rest e f (finds_format_cut c quote rest k l)
finds c p bytes rest (standing.escape_in_part b quote k l e f g) = by_bytes c p _ bytes _ rest e f (finds_escape c b quote rest k l g)
finds c p bytes rest (standing.backslash_in_part quote k l e f g) = by_bytes c p _ bytes _ rest e f (finds_last_backslash c quote rest k l g)

-- A piece that stands has a byte.
some_by : (b : ℕ) (bytes bs rest : List ℕ) → bytes ≡ b ∷ bs → 0 < length (bytes ++ rest)
some_by b bytes bs rest e = rw e (omega arith)

some_passes : (t : ℕ → Bool) (bytes rest : List ℕ) → t 0 ≡ false → t (slice_index bytes 0) ≡ true → 0 < length (bytes ++ rest)
some_passes t [] rest h k = absurd (not_true (t 0) h k)
some_passes t (b ∷ bs) rest h k = omega arith

some_docstring : (p : Piece) (bytes rest : List ℕ) → IsDocstring p bytes rest → 0 < length (bytes ++ rest)
some_docstring p bytes rest (standing.short q items h k f empty g) = some_by q bytes _ rest f
some_docstring p bytes rest (standing.long items k f empty g) = some_by 34 bytes _ rest f
some_docstring p bytes rest (standing.endless body h f nothing g) = some_by 34 bytes _ rest f

some_list : (bytes rest : List ℕ) → bytes ≢ [] → 0 < length (bytes ++ rest)
some_list [] rest h = absurd (h refl)
some_list (b ∷ bs) rest h = omega arith

some_behind : (xs bytes rest : List ℕ) → bytes ≡ xs ++ 92 ∷ [] → 0 < length (bytes ++ rest)
some_behind [] bytes rest e = some_by 92 bytes [] rest e
some_behind (x ∷ xs) bytes rest e = some_by x bytes (xs ++ 92 ∷ []) rest e

some_open : (b : Bracket) (bytes rest : List ℕ) → bytes ≡ open_bytes b → 0 < length (bytes ++ rest)
some_open Round bytes rest e = some_by 40 bytes [] rest e
some_open Square bytes rest e = some_by 91 bytes [] rest e

some_close : (b : Bracket) (bytes rest : List ℕ) → bytes ≡ close_bytes b → 0 < length (bytes ++ rest)
some_close Round bytes rest e = some_by 41 bytes [] rest e
some_close Square bytes rest e = some_by 93 bytes [] rest e

some_mark : (op : Operator) (bytes rest : List ℕ) → bytes ≡ operator_bytes op → 0 < length (bytes ++ rest)
some_mark op bytes rest e =
    let split : operator_bytes op ++ rest ≡ slice_index (operator_bytes op ++ rest) 0 ∷ drop 1 (operator_bytes op ++ rest) = next_is (operator_bytes op ++ rest) (mark_positive op rest) in
    let k : length (operator_bytes op ++ rest) ≡ length (slice_index (operator_bytes op ++ rest) 0 ∷ drop 1 (operator_bytes op ++ rest)) = ap length split in
    rw e (omega (arith, k))

some_bytes : (c : Context) (p : Piece) (bytes rest : List ℕ) → Stands c p bytes rest → 0 < length (bytes ++ rest)
some_bytes c p bytes rest (standing.line_feed e f) = some_by _ bytes _ rest f
some_bytes c p bytes rest (standing.carriage_return k e f) = some_by _ bytes _ rest f
some_bytes c p bytes rest (standing.space k e f) = some_by _ bytes _ rest f
some_bytes c p bytes rest (standing.tab k l e f) = some_by _ bytes _ rest f
some_bytes c p bytes rest (standing.comment body k e f g i) = some_by _ bytes _ rest f
some_bytes c p bytes rest (standing.word k e f g i j) = some_passes is_letter bytes rest refl f
some_bytes c p bytes rest (standing.number k e f g i) = some_passes is_digit bytes rest refl f
some_bytes c p bytes rest (standing.open_bracket b k e f) = some_open b bytes rest f
some_bytes c p bytes rest (standing.close_bracket b k e f) = some_close b bytes rest f
some_bytes c p bytes rest (standing.mark op k e f g) = some_mark op bytes rest f
some_bytes c p bytes rest (standing.no_form b k e f g i) = some_by _ bytes _ rest f
some_bytes c p bytes rest (standing.closing_brace k e f) = some_by _ bytes _ rest f
some_bytes c p bytes rest (standing.hash_in_part quote k l e f) = some_by _ bytes _ rest f
some_bytes c p bytes rest (standing.quote_in_part b quote k l e f g i) = some_by _ bytes _ rest f
some_bytes c p bytes rest (standing.bad_byte b k e f g i j l) = some_by _ bytes _ rest f
some_bytes c p bytes rest (standing.backslash k e f) = some_by _ bytes _ rest f
some_bytes c p bytes rest (standing.text quote items k e f g i j) = some_by _ bytes _ rest f
some_bytes c p bytes rest (standing.open_text quote body k e f g i j l) = some_by _ bytes _ rest f
some_bytes c p bytes rest (standing.docstring k l d) = some_docstring p bytes rest d
some_bytes c p bytes rest (standing.format_start quote k e f g) = some_by _ bytes _ rest g
some_bytes c p bytes rest (standing.format_end quote k l e f) = some_by _ bytes _ rest f
some_bytes c p bytes rest (standing.brace b quote k l e f g) = some_by _ bytes _ rest g
some_bytes c p bytes rest (standing.format_open quote k l e f g) = some_by _ bytes _ rest f
some_bytes c p bytes rest (standing.lone_brace quote k l e f g) = some_by _ bytes _ rest f
some_bytes c p bytes rest (standing.literal quote items k l e f g i j) = some_list bytes rest g
some_bytes c p bytes rest (standing.cut_literal quote items k l e f g i) = some_behind (bytes_of items) bytes rest f
some_bytes c p bytes rest (standing.format_close quote k l e f) = some_by _ bytes _ rest f
some_bytes c p bytes rest (standing.format_cut quote k l e f) = some_by _ bytes _ rest f
some_bytes c p bytes rest (standing.escape_in_part b quote k l e f g) = some_by _ bytes _ rest f
some_bytes c p bytes rest (standing.backslash_in_part quote k l e f g) = some_by _ bytes _ rest f

-- What may stand is what is found.
pub found : (a : Place) (ps : List Piece) (text : List ℕ) → IsSpelled a ps text → IsMadeOf a text ps
found a [] text s = s
found a (p ∷ ps) text s =
    let bytes : List ℕ = s.0 in
    let rest : List ℕ = s.1 in
    let f : piece_at (context_of a) text ≡ (p, length bytes) = ap (piece_at (context_of a)) s.2 ∙ finds (context_of a) p bytes rest s.3 in
    let some : 0 < length (bytes ++ rest) = some_bytes (context_of a) p bytes rest s.3 in
    let left : drop (piece_at (context_of a) text).1 text ≡ rest =
    ap (λ (x : Front). drop x.1 text) f ∙ ap (λ (t : List ℕ). drop (length bytes) t) s.2 ∙ drop-append_seam bytes rest in (
      subst (λ (t : List ℕ). 0 < length t) (sym s.2) some,
      ap (λ (x : Front). x.0) f,
      subst (λ (t : List ℕ). IsMadeOf (place_after a p) t ps) (sym left) (found (place_after a p) ps rest s.4),
    )

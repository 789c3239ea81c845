-- Each piece that is found at a place stands there.
use Rattle.std.proofs.Common.{◌≡◌, ◌⊎◌, inl, inr, ℕ, zero, suc, ◌+◌, ◌-◌, ◌<◌, Bool, true, false, not, ◌==◌, ◌&&◌, ◌||◌, List, [], ◌∷◌, ◌++◌, length, take, drop, Option, None, Some, refl, sym, ap, subst, ◌∙◌, arith, append_assoc, length-append}
use Rattle.std.proofs.Math.Seq.{take-append_seam, drop-append_seam}
use Rattle.std.proofs.lemmas.List.{append-nil}
use Rattle.std.specs.Prelude.{if◌then◌else◌, slice_index, slice_get, IfSome}
use Rattle.std.specs.List.{take_while, list_all}
use Rattle.std.specs.Str.{bytes_eq}
use Rattle.std.proofs.lemmas.List.Sums.{take_while-cons}
use Rattle.std.proofs.lemmas.Bool.Decides.{nat_tests}
use Rattle.py_syntax.specs.Bytes.{is_digit, is_letter, is_word_byte, is_number_byte, is_quote, is_brace, is_printable, are_printable, not_line_feed, line_feeds}
use Rattle.py_syntax.specs.Keywords.{keyword_of}
use Rattle.py_syntax.specs.Numbers.{base_of, number_of}
use Rattle.py_syntax.specs.Marks.{bracket_of, single}
use Rattle.py_syntax.specs.Texts.{text_end, said_from, literal_len, docstring_end}
use Rattle.py_syntax.specs.Pieces.{Front, or_else, piece_at, piece_in, blank_piece, code_piece, expression_piece, format_piece, word_or_mark, word_piece, number_piece, mark_piece, mark_or_bracket, operator_piece, other_piece, quoted_piece, docstring_piece, docstring_of, long_docstring, short_docstring, text_piece, text_until, after_backslash, brace_piece, literal_piece}
use Rattle.py_syntax.specs.Places.{Place, context_of, place_after, mode_after, HasQuote}
use Rattle.py_syntax.specs.Found.{IsMadeOf}
use Rattle.py_syntax.specs.Items.{Item, bytes_of, said_by, AreInLiteral}
use Rattle.py_syntax.specs.Standing.{EndsBefore, IsOfCode, IsLongest, IsDocstring, IsNoDocstring, StaysOpenOnLine, is_formless, is_line_empty, operator_bytes, word_token, number_token, text_token, literal_token, begins_format, Stands}
use Rattle.py_syntax.specs.Standing as standing
use Rattle.py_syntax.specs.Spelled.{IsSpelled}
use Rattle.py_syntax.specs.declared.operator.Operator.{Operator}
use Rattle.py_syntax.specs.declared.operator.Bracket.TheVariants.{Round, Square}
use Rattle.py_syntax.specs.declared.token.Token.{Token}
use Rattle.py_syntax.specs.declared.token.Token.TheVariants as token
use Rattle.py_syntax.specs.declared.piece.Piece.{Piece}
use Rattle.py_syntax.specs.declared.piece.Piece.TheVariants as piece
use Rattle.py_syntax.specs.declared.piece.Mode.{Mode}
use Rattle.py_syntax.specs.declared.piece.Mode.TheVariants as mode
use Rattle.py_syntax.specs.declared.piece.Context.{Context}
use Rattle.py_syntax.proofs.Tests.{equal, different, not_equal, both, either, one_of, not_true, to_false, all_below, below, Run, run, first_in, letter_is_word, digit_is_number, base_of_front, digit_known}
use Rattle.py_syntax.proofs.MarkLaws.{when, at_front, next_is, found_first, found_longest, none_longest, single_none}
use Rattle.py_syntax.proofs.DocstringLaws.{FindsDocstrings, finds_docstring}
use Rattle.py_syntax.proofs.QuoteLaws.{closed, said_items, open_text_stays, tail, endless_stays, literal_of, literal_more, literal_ends, cut_ends, said_literal, said_cut, goes_on}

-- The piece is spelled by a front of the text of that length.
pub record IsFront (c : Context) (text : List ℕ) (x : Piece × ℕ) : Type 0 where
  pub bytes : List ℕ
  pub rest : List ℕ
  pub split : text ≡ bytes ++ rest
  pub size : length bytes ≡ x.1
  pub stands : Stands c x.0 bytes rest

one : (c : Context) (p : Piece) (b : ℕ) (bs : List ℕ) → Stands c p (b ∷ []) bs → IsFront c (b ∷ bs) (p, 1)
one c p b bs s = record { bytes = b ∷ []; rest = bs; split = refl; size = refl; stands = s }

front_by : (c : Context) (text bytes rest : List ℕ) (p : Piece) (n : ℕ) → text ≡ bytes ++ rest → length bytes ≡ n → Stands c p bytes rest → IsFront c text (p, n)
front_by c text bytes rest p n e k s = record { bytes = bytes; rest = rest; split = e; size = k; stands = s }

two_by : (c : Context) (p : Piece) (b d : ℕ) (bs : List ℕ) → 0 < d → slice_index bs 0 ≡ d → Stands c p (b ∷ d ∷ []) (drop 1 bs) → IsFront c (b ∷ bs) (p, 2)
two_by c p b d bs some e s =
    front_by c (b ∷ bs) (b ∷ d ∷ []) (drop 1 bs) p 2 (ap (λ (xs : List ℕ). b ∷ xs) (next_is bs (omega arith) ∙ ap (λ (x : ℕ). x ∷ drop 1 bs) e)) refl s

by_if : (P : Front → Type 0) (t : Bool) (x y : Front) → (t ≡ true → P x) → (t ≡ false → P y) → P (if t then x else y)
by_if P true x y p q = p (λ i. true)
by_if P false x y p q = q (λ i. false)

single_byte : (b n : ℕ) → (b == n) ≡ true → b ∷ [] ≡ n ∷ []
single_byte b n e = ap (λ (x : ℕ). x ∷ []) (equal b n e)

-- Words.

no_format : (c : Context) (bytes rest : List ℕ) → IsOfCode c.mode → (c.mode ≡ mode.Code → (bytes_eq bytes (102 ∷ []) && is_quote (slice_index rest 0)) ≡ false) → begins_format c.mode bytes rest ≡ false
no_format c bytes rest code h = go c.mode code h
  where
    go : (r : Mode) → IsOfCode r → (r ≡ mode.Code → (bytes_eq bytes (102 ∷ []) && is_quote (slice_index rest 0)) ≡ false) → begins_format r bytes rest ≡ false
    go mode.Code code h = h refl
    go (mode.Expression quote) code h = refl
    go (mode.Format quote) code h = refl

alone : (x y : Bool) → (x && y) ≡ false → ((x && true) && y) ≡ false
alone true y e = e
alone false y e = refl

longer : (x y : Bool) → ((x && false) && y) ≡ false
longer true y = refl
longer false y = refl

word_stands : (c : Context) (b : ℕ) (bs : List ℕ) → IsOfCode c.mode → (c.mode ≡ mode.Code → ((b == 102) && is_quote (slice_index bs 0)) ≡ false) → is_letter b ≡ true → IsFront c (b ∷ bs) (word_piece (b ∷ bs))
unfolding word_piece
word_stands c b bs code plain h =
    let r = run is_word_byte (b ∷ bs) in
    record {
      bytes = r.front;
      rest = r.rest;
      split = r.split;
      size = sym (ap length r.taken);
      stands = standing.word code (ap (λ (w : List ℕ). piece.Token (word_token w (keyword_of w)) true) r.taken) (first_in is_word_byte is_letter (b ∷ bs) r refl letter_is_word h) r.all r.ends
          (no_format c r.front r.rest code (λ e. f_alone r.front r.rest r.split (plain e)));
    }
  where
    f_alone : (front rest : List ℕ) → b ∷ bs ≡ front ++ rest → ((b == 102) && is_quote (slice_index bs 0)) ≡ false → (bytes_eq front (102 ∷ []) && is_quote (slice_index rest 0)) ≡ false
    f_alone [] rest e k = refl
    f_alone (x ∷ []) rest e k = let p : b ≡ x = cc in let q : bs ≡ rest = cc in alone (x == 102) (is_quote (slice_index rest 0)) (rw (p, q) at k)
    f_alone (x ∷ y ∷ ys) rest e k = longer (x == 102) (is_quote (slice_index rest 0))

number_stands : (c : Context) (text : List ℕ) → IsOfCode c.mode → is_digit (slice_index text 0) ≡ true → IsFront c text (number_piece text)
unfolding number_piece
number_stands c text code h =
    let base : ℕ = base_of text in
    let r = run (is_number_byte base) text in
    let first : is_digit (slice_index r.front 0) ≡ true = first_in (is_number_byte base) is_digit text r refl (digit_is_number base) h in
    let same : base ≡ base_of r.front = ap base_of r.split ∙ base_of_front base r.front r.rest (digit_known r.front first) r.ends in
    record {
      bytes = r.front;
      rest = r.rest;
      split = r.split;
      size = sym (ap length r.taken);
      stands = standing.number code (ap (λ (w : List ℕ). piece.Token (number_token (number_of w)) true) r.taken) first
          (subst (λ (n : ℕ). list_all (is_number_byte n) r.front ≡ true) same r.all) (subst (λ (n : ℕ). EndsBefore (is_number_byte n) r.rest) same r.ends);
    }

-- Brackets and operators.

bracket_stands : (c : Context) (b : ℕ) (bs : List ℕ) → IsOfCode c.mode → IfSome (bracket_of b) (λ t. IsFront c (b ∷ bs) (piece.Token t true, 1))
bracket_stands c b bs code =
    let P : Token → Type 0 = λ t. IsFront c (b ∷ bs) (piece.Token t true, 1) in
    when P (b == 40) _ _ (λ e. one c _ b bs (standing.open_bracket Round code refl (single_byte b 40 e)))
    (when P (b == 41) _ _ (λ e. one c _ b bs (standing.close_bracket Round code refl (single_byte b 41 e)))
    (when P (b == 91) _ _ (λ e. one c _ b bs (standing.open_bracket Square code refl (single_byte b 91 e)))
    (when P (b == 93) _ _ (λ e. one c _ b bs (standing.close_bracket Square code refl (single_byte b 93 e))) tt)))

-- What is known of a byte with which no word, bracket or mark begins.
pub record IsLeft (b : ℕ) (bs : List ℕ) : Type 0 where
  pub no_digit : is_digit b ≡ false
  pub no_letter : is_letter b ≡ false
  pub no_bracket : bracket_of b ≡ None
  pub no_mark : single b ≡ None
  pub longest : IsLongest (b ∷ []) bs

operator_front : (c : Context) (b : ℕ) (bs : List ℕ) (o : Option (Operator × ℕ)) → IsOfCode c.mode → at_front (b ∷ bs) ≡ o → (o ≡ None → IsFront c (b ∷ bs) (other_piece b)) → IsFront c (b ∷ bs) (operator_piece b o)
operator_front c b bs None code e other = other refl
operator_front c b bs (Some x) code e other =
    let f = found_first b bs x e in
    front_by c (b ∷ bs) (operator_bytes x.0) f.behind _ x.1 f.split f.size (standing.mark x.0 code refl refl (found_longest (b ∷ bs) (operator_bytes x.0) f.behind x e f.split f.size))

mark_stands : (c : Context) (b : ℕ) (bs : List ℕ) → IsOfCode c.mode → is_digit b ≡ false → is_letter b ≡ false → (IsLeft b bs → IsFront c (b ∷ bs) (other_piece b)) → IsFront c (b ∷ bs) (mark_piece (b ∷ bs))
unfolding mark_piece
mark_stands c b bs code no_digit no_letter other = go (bracket_of b) refl (bracket_stands c b bs code)
  where
    left : bracket_of b ≡ None → at_front (b ∷ bs) ≡ None → IsLeft b bs
    left e f = record { no_digit = no_digit; no_letter = no_letter; no_bracket = e; no_mark = single_none b _ _ f; longest = none_longest (b ∷ bs) (b ∷ []) bs f refl }

    go : (o : Option Token) → bracket_of b ≡ o → IfSome o (λ t. IsFront c (b ∷ bs) (piece.Token t true, 1)) → IsFront c (b ∷ bs) (mark_or_bracket o (operator_piece b (at_front (b ∷ bs))))
    go (Some t) e h = h
    go None e h = operator_front c b bs (at_front (b ∷ bs)) code refl (λ f. other (left e f))

word_or_mark_stands : (c : Context) (b : ℕ) (bs : List ℕ) → IsOfCode c.mode → (c.mode ≡ mode.Code → ((b == 102) && is_quote (slice_index bs 0)) ≡ false)
    → (IsLeft b bs → IsFront c (b ∷ bs) (other_piece b)) → IsFront c (b ∷ bs) (word_or_mark (b ∷ bs))
unfolding word_or_mark
word_or_mark_stands c b bs code plain other =
    by_if (IsFront c (b ∷ bs)) (is_digit b) _ _ (λ e. number_stands c (b ∷ bs) code e)
    (λ e. by_if (IsFront c (b ∷ bs)) (is_letter b) _ _ (λ f. word_stands c b bs code plain f) (λ f. mark_stands c b bs code e f other))

-- Bytes that begin nothing.

-- the printable bytes are these
abbrev is_some : {A : Type 0} → Option A → Bool
is_some None = false
is_some (Some x) = true

abbrev is_known : ℕ → Bool
is_known b = not (is_printable b) || (is_digit b || (is_letter b || (is_some (bracket_of b) || (is_some (single b) || (is_formless b || ((b == 32) || ((b == 35) || (is_quote b || ((b == 92) || (b == 125))))))))))

all_known : all_below is_known 127 ≡ true
all_known = refl

printable_below : (b : ℕ) → is_printable b ≡ true → b < 127
printable_below b e = grind (arith, nat_tests)

known : (b : ℕ) → is_printable b ≡ true → is_known b ≡ true
known b e = below is_known 127 b all_known (printable_below b e)

-- A printable byte that is left is formless, a quote, `#` or `}`.
left_of : (p d l k m x1 x2 x3 x4 x5 x6 : Bool) → p ≡ true → d ≡ false → l ≡ false → k ≡ false → m ≡ false → x2 ≡ false → x5 ≡ false
    → (not p || (d || (l || (k || (m || (x1 || (x2 || (x3 || (x4 || (x5 || x6)))))))))) ≡ true → (x1 || (x3 || (x4 || x6))) ≡ true
left_of p d l k m x1 x2 x3 x4 x5 x6 e1 e2 e3 e4 e5 e6 e7 h = rw (e1, e2, e3, e4, e5, e6, e7) at h

left_is : (b : ℕ) (bs : List ℕ) → IsLeft b bs → is_printable b ≡ true → (b == 32) ≡ false → (b == 92) ≡ false → (is_formless b || ((b == 35) || (is_quote b || (b == 125)))) ≡ true
left_is b bs h e f g =
    left_of (is_printable b) (is_digit b) (is_letter b) (is_some (bracket_of b)) (is_some (single b)) (is_formless b) (b == 32) (b == 35) (is_quote b) (b == 92) (b == 125)
    e h.no_digit h.no_letter (ap (λ (o : Option Token). is_some o) h.no_bracket) (ap (λ (o : Option Operator). is_some o) h.no_mark) f g (known b e)

-- no line feed, no carriage return before one, and no space
pub record IsNoBlank (b : ℕ) (bs : List ℕ) : Type 0 where
  pub no_feed : (b == 10) ≡ false
  pub no_return : ((b == 13) && (slice_index bs 0 == 10)) ≡ false
  pub no_space : (b == 32) ≡ false

no_feed_behind : (b : ℕ) (bs : List ℕ) → IsNoBlank b bs → b ≡ 13 → EndsBefore (λ d. d == 10) bs
no_feed_behind b [] h e = tt
no_feed_behind b (d ∷ ds) h e = rw e at h.no_return

bad_stands : (c : Context) (b : ℕ) (bs : List ℕ) → IsOfCode c.mode → IsNoBlank b bs → is_printable b ≡ false → (b ≡ 9 → c.mode ≡ mode.Code → c.at_front ≡ true → ⊥) → IsFront c (b ∷ bs) (piece.BadByte, 1)
bad_stands c b bs code h e k = one c _ b bs (standing.bad_byte b code refl refl e (different b 10 h.no_feed) (no_feed_behind b bs h) k)

code_left : (x y z w : Bool) → y ≡ false → z ≡ false → (x || (y || (z || w))) ≡ true → (x || w) ≡ true
code_left x y z w e f h = rw (e, f) at h

other_in_code : (c : Context) (b : ℕ) (bs : List ℕ) → c.mode ≡ mode.Code → IsNoBlank b bs → ((b == 9) && c.at_front) ≡ false → (b == 35) ≡ false → is_quote b ≡ false → IsLeft b bs → IsFront c (b ∷ bs) (other_piece b)
other_in_code c b bs code blank no_tab no_hash no_quote h = by_if (IsFront c (b ∷ bs)) (is_printable b && not (b == 92)) _ _
    (λ e. let t = both (is_printable b) (not (b == 92)) e in
    formless (one_of (is_formless b) (b == 125) (code_left (is_formless b) (b == 35) (is_quote b) (b == 125) no_hash no_quote (left_is b bs h t.0 blank.no_space (not_backslash (b == 92) t.1)))))
    (λ e. bad (either (is_printable b) (b == 92) e))
  where
    of_code : IsOfCode c.mode
    of_code = rw code tt

    not_backslash : (x : Bool) → not x ≡ true → x ≡ false
    not_backslash true e = cc
    not_backslash false e = refl

    formless : (is_formless b ≡ true) ⊎ ((b == 125) ≡ true) → IsFront c (b ∷ bs) (piece.Token token.Invalid true, 1)
    formless (inl e) = one c _ b bs (standing.no_form b of_code refl refl e h.longest)
    formless (inr e) = one c _ b bs (standing.closing_brace code refl (single_byte b 125 e))

    no_indent : b ≡ 9 → c.mode ≡ mode.Code → c.at_front ≡ true → ⊥
    no_indent e f g = not_true ((b == 9) && c.at_front) no_tab (rw (e, g) refl)

    bad : (is_printable b ≡ false) ⊎ ((b == 92) ≡ true) → IsFront c (b ∷ bs) (piece.BadByte, 1)
    bad (inl e) = bad_stands c b bs of_code blank e no_indent
    bad (inr e) = one c _ b bs (standing.backslash code refl (single_byte b 92 e))

not_code : (quote : ℕ) → mode.Expression quote ≡ mode.Code → ⊥
not_code quote e = subst is_part e tt
  where
    is_part : Mode → Type 0
    is_part mode.Code = ⊥
    is_part (mode.Expression q) = Unit {0}
    is_part (mode.Format q) = Unit {0}

other_in_part : (c : Context) (quote b : ℕ) (bs : List ℕ) → c.mode ≡ mode.Expression quote → is_quote quote ≡ true → IsNoBlank b bs → (b == 125) ≡ false → (b == quote) ≡ false → (b == 92) ≡ false
    → IsLeft b bs → IsFront c (b ∷ bs) (other_piece b)
other_in_part c quote b bs part proper blank no_brace no_quote no_backslash h = by_if (IsFront c (b ∷ bs)) (is_printable b && not (b == 92)) _ _
    (λ e. let t = both (is_printable b) (not (b == 92)) e in formless (one_of (is_formless b) ((b == 35) || is_quote b) (simpler (left_is b bs h t.0 blank.no_space no_backslash))))
    (λ e. bad (either (is_printable b) (b == 92) e))
  where
    of_code : IsOfCode c.mode
    of_code = rw part proper

    simpler : (is_formless b || ((b == 35) || (is_quote b || (b == 125)))) ≡ true → (is_formless b || ((b == 35) || is_quote b)) ≡ true
    simpler e = go (is_formless b) (b == 35) (is_quote b) (b == 125) no_brace e
      where
        go : (x y z w : Bool) → w ≡ false → (x || (y || (z || w))) ≡ true → (x || (y || z)) ≡ true
        go true y z w f e = refl
        go false true z w f e = refl
        go false false true w f e = refl
        go false false false w f e = let k : false ≡ true = sym f ∙ e in k

    hash : ((b == 35) ≡ true) ⊎ (is_quote b ≡ true) → IsFront c (b ∷ bs) (piece.Token token.Invalid true, 1)
    hash (inl e) = one c _ b bs (standing.hash_in_part quote part proper refl (single_byte b 35 e))
    hash (inr e) = one c _ b bs (standing.quote_in_part b quote part proper refl refl e (different b quote no_quote))

    formless : (is_formless b ≡ true) ⊎ (((b == 35) || is_quote b) ≡ true) → IsFront c (b ∷ bs) (piece.Token token.Invalid true, 1)
    formless (inl e) = one c _ b bs (standing.no_form b of_code refl refl e h.longest)
    formless (inr e) = hash (one_of (b == 35) (is_quote b) e)

    bad : (is_printable b ≡ false) ⊎ ((b == 92) ≡ true) → IsFront c (b ∷ bs) (piece.BadByte, 1)
    bad (inl e) = bad_stands c b bs of_code blank e (λ f g k. not_code quote (sym part ∙ g))
    bad (inr e) = absurd (not_true (b == 92) no_backslash e)

-- Blanks.

blank_or : (c : Context) (b : ℕ) (bs : List ℕ) (x : Front) → IsOfCode c.mode → (IsNoBlank b bs → IsFront c (b ∷ bs) x) → IsFront c (b ∷ bs) (or_else (blank_piece (b ∷ bs)) x)
unfolding blank_piece
blank_or c b bs x code other = go (b == 10) ((b == 13) && (slice_index bs 0 == 10)) (b == 32) refl refl refl
  where
    go : (u v w : Bool) → (b == 10) ≡ u → ((b == 13) && (slice_index bs 0 == 10)) ≡ v → (b == 32) ≡ w
        → IsFront c (b ∷ bs) (or_else (if u then Some (piece.LineEnd, 1) else (if v then Some (piece.LineEnd, 2) else (if w then Some (piece.Space, 1) else None))) x)
    go true v w e f g = one c _ b bs (standing.line_feed refl (single_byte b 10 e))
    go false true w e f g =
        let t = both (b == 13) (slice_index bs 0 == 10) f in
        two_by c _ b 10 bs (omega arith) (equal _ 10 t.1) (standing.carriage_return code refl (ap (λ (y : ℕ). y ∷ 10 ∷ []) (equal b 13 t.0)))
    go false false true e f g = one c _ b bs (standing.space code refl (single_byte b 32 g))
    go false false false e f g = other (record { no_feed = e; no_return = f; no_space = g })

-- Texts and docstrings.

-- A run that begins with a byte that passes.
first_run : (p : ℕ → Bool) (b : ℕ) (bs : List ℕ) → p b ≡ true → (r : Run p bs) → take_while p (b ∷ bs) ≡ b ∷ r.front
first_run p b bs h r = take_while-cons p b bs ∙ rw h (ap (λ (xs : List ℕ). b ∷ xs) r.taken)

is_no_feed : (b : ℕ) → (b == 10) ≡ false → not_line_feed b ≡ true
is_no_feed b e = rw e refl

text_stands : (c : Context) (quote : ℕ) (bs : List ℕ) → c.mode ≡ mode.Code → is_quote quote ≡ true → IsNoDocstring c (quote ∷ bs) → IsFront c (quote ∷ bs) (text_piece (quote ∷ bs))
unfolding text_piece
text_stands c quote bs code h alone = go (text_end quote false bs) refl
  where
    no_feed : not_line_feed quote ≡ true
    no_feed = is_no_feed quote (to_false (quote == 10) (λ e. let q : quote ≡ 10 = equal quote 10 e in not_true (is_quote 10) refl (rw q at h)))

    go : (o : Option ℕ) → text_end quote false bs ≡ o → IsFront c (quote ∷ bs) (text_until (quote ∷ bs) o)
    go None e =
        let r = run not_line_feed bs in
        front_by c (quote ∷ bs) (quote ∷ r.front) r.rest _ _ (ap (λ (xs : List ℕ). quote ∷ xs) r.split) (sym (ap length (first_run not_line_feed quote bs no_feed r)))
        (standing.open_text quote r.front code refl refl h r.all r.ends (subst (StaysOpenOnLine quote) r.split (open_text_stays quote bs h e)))
    go (Some n) e =
        let k = closed quote bs n e in
        let items = k.items in
        let body : take (n - 1) bs ≡ bytes_of items =
        ap (λ (xs : List ℕ). take (n - 1) xs) k.split
        ∙ ap (λ (i : ℕ). take i (bytes_of items ++ quote ∷ k.rest)) (let q : n - 1 ≡ length (bytes_of items) = omega (arith, k.size) in q)
        ∙ take-append_seam (bytes_of items) (quote ∷ k.rest) in
        let split : quote ∷ bs ≡ (quote ∷ (bytes_of items ++ quote ∷ [])) ++ k.rest = ap (λ (xs : List ℕ). quote ∷ xs) (k.split ∙ sym (append_assoc (bytes_of items) (quote ∷ []) k.rest)) in
        front_by c (quote ∷ bs) (quote ∷ (bytes_of items ++ quote ∷ [])) k.rest _ (n + 1) split (simp length-append (omega (arith, k.size)))
        (standing.text quote items code
        (ap (λ (xs : List ℕ). piece.Token (text_token (said_from false xs)) (are_printable xs)) body
        ∙ ap (λ (x : Option (List ℕ)). piece.Token (text_token x) (are_printable (bytes_of items))) (said_items quote items k.proper))
        refl h k.proper (subst (IsNoDocstring c) split alone))

-- A docstring of a front of the text of that length.
pub record IsDocstringFront (text : List ℕ) (x : Piece × ℕ) : Type 0 where
  pub bytes : List ℕ
  pub rest : List ℕ
  pub split : text ≡ bytes ++ rest
  pub size : length bytes ≡ x.1
  pub stands : IsDocstring x.0 bytes rest

-- a docstring of these bytes, if nothing else stands on its line
docstring_front : (text bytes rest : List ℕ) (n : ℕ) → text ≡ bytes ++ rest → length bytes ≡ n
    → (is_line_empty rest ≡ true → IsDocstring (piece.Docstring (line_feeds bytes)) bytes rest) → IfSome (docstring_of text n) (IsDocstringFront text)
unfolding docstring_of
docstring_front text bytes rest n e k f =
    let left : drop n text ≡ rest = ap (λ (i : ℕ). drop i text) (sym k) ∙ ap (λ (t : List ℕ). drop (length bytes) t) e ∙ drop-append_seam bytes rest in
    let front : take n text ≡ bytes = ap (λ (i : ℕ). take i text) (sym k) ∙ ap (λ (t : List ℕ). take (length bytes) t) e ∙ take-append_seam bytes rest in
    when (IsDocstringFront text) (is_line_empty (drop n text)) _ None
    (λ h. record {
      bytes = bytes;
      rest = rest;
      split = e;
      size = k;
      stands = subst (λ (xs : List ℕ). IsDocstring (piece.Docstring (line_feeds xs)) bytes rest) (sym front) (f (sym (ap (λ (t : List ℕ). is_line_empty t) left) ∙ h));
    }) tt

three_quotes : (b : ℕ) (bs : List ℕ) → ((b == 34) && (slice_index (b ∷ bs) 1 == 34) && (slice_index (b ∷ bs) 2 == 34)) ≡ true → b ∷ bs ≡ 34 ∷ 34 ∷ 34 ∷ drop 3 (b ∷ bs)
three_quotes b [] e = let t = both ((b == 34) && (0 == 34)) (0 == 34) e in let u : false ≡ true = t.1 in cc
three_quotes b (d ∷ []) e = let t = both ((b == 34) && (d == 34)) (0 == 34) e in let u : false ≡ true = t.1 in cc
three_quotes b (d ∷ f ∷ fs) e =
    let t = both ((b == 34) && (d == 34)) (f == 34) e in
    let u = both (b == 34) (d == 34) t.0 in
    let x : b ≡ 34 = equal b 34 u.0 in
    let y : d ≡ 34 = equal d 34 u.1 in
    let z : f ≡ 34 = equal f 34 t.1 in
    (let q : b ∷ d ∷ f ∷ fs ≡ 34 ∷ 34 ∷ 34 ∷ fs = cc in q)

by_if_some : (P : Front → Type 0) (t : Bool) (x y : Option Front) → (t ≡ true → IfSome x P) → (t ≡ false → IfSome y P) → IfSome (if t then x else y) P
by_if_some P true x y p q = p (λ i. true)
by_if_some P false x y p q = q (λ i. false)

pub docstring_stands : (b : ℕ) (bs : List ℕ) → is_quote b ≡ true → IfSome (docstring_piece (b ∷ bs)) (IsDocstringFront (b ∷ bs))
unfolding docstring_piece
docstring_stands b bs quote =
    by_if_some (IsDocstringFront (b ∷ bs)) ((b == 34) && (slice_index (b ∷ bs) 1 == 34) && (slice_index (b ∷ bs) 2 == 34)) _ _
    (λ e. long (docstring_end false 0 (drop 3 (b ∷ bs))) (three_quotes b bs e) refl)
    (λ e. short (text_end b false bs) refl)
  where
    long : (o : Option ℕ) → b ∷ bs ≡ 34 ∷ 34 ∷ 34 ∷ drop 3 (b ∷ bs) → docstring_end false 0 (drop 3 (b ∷ bs)) ≡ o → IfSome (long_docstring (b ∷ bs) o) (IsDocstringFront (b ∷ bs))
    long None e h = record {
      bytes = b ∷ bs;
      rest = [];
      split = sym (append-nil (b ∷ bs));
      size = refl;
      stands = standing.endless (drop 3 (b ∷ bs)) (endless_stays (drop 3 (b ∷ bs)) h) e refl refl;
    }
    long (Some n) e h =
        let k = tail 0 (drop 3 (b ∷ bs)) n (omega arith) h in
        docstring_front (b ∷ bs) (34 ∷ 34 ∷ 34 ∷ (bytes_of k.items ++ 34 ∷ 34 ∷ 34 ∷ [])) k.rest (n + 3)
        (e ∙ ap (λ (xs : List ℕ). 34 ∷ 34 ∷ 34 ∷ xs) (k.split ∙ sym (append_assoc (bytes_of k.items) (34 ∷ 34 ∷ 34 ∷ []) k.rest)))
        (simp length-append (omega (arith, k.size)))
        (λ empty. standing.long k.items k.proper refl empty refl)

    short : (o : Option ℕ) → text_end b false bs ≡ o → IfSome (short_docstring (b ∷ bs) o) (IsDocstringFront (b ∷ bs))
    short None h = tt
    short (Some n) h =
        let k = closed b bs n h in
        docstring_front (b ∷ bs) (b ∷ (bytes_of k.items ++ b ∷ [])) k.rest (n + 1)
        (ap (λ (xs : List ℕ). b ∷ xs) (k.split ∙ sym (append_assoc (bytes_of k.items) (b ∷ []) k.rest)))
        (simp length-append (omega (arith, k.size)))
        (λ empty. standing.short b k.items quote k.proper refl empty refl)

-- Where no docstring is found, none stands.
quoted_stands : (c : Context) (b : ℕ) (bs : List ℕ) → c.mode ≡ mode.Code → is_quote b ≡ true
    → FindsDocstrings (b ∷ bs) → IsFront c (b ∷ bs) (quoted_piece c.is_fresh (b ∷ bs))
unfolding quoted_piece
quoted_stands c b bs code quote found = by_if (IsFront c (b ∷ bs)) c.is_fresh _ _ (λ e. go e (docstring_piece (b ∷ bs)) refl (docstring_stands b bs quote)) (λ e. text_stands c b bs code quote (λ f. absurd (not_true c.is_fresh e f)))
  where
    go : c.is_fresh ≡ true → (o : Option Front) → docstring_piece (b ∷ bs) ≡ o → IfSome o (IsDocstringFront (b ∷ bs)) → IsFront c (b ∷ bs) (or_else o (text_piece (b ∷ bs)))
    go fresh (Some x) e h = record { bytes = h.bytes; rest = h.rest; split = h.split; size = h.size; stands = standing.docstring code fresh h.stands }
    go fresh None e h = text_stands c b bs code quote (λ f p bytes rest split d. none (sym e ∙ found p bytes rest split d))
      where
        none : {x : Front} → None ≡ Some x → ⊥
        none e = cc

-- Code.

comment_stands : (c : Context) (b : ℕ) (bs : List ℕ) → c.mode ≡ mode.Code → b ≡ 35 → IsFront c (b ∷ bs) (piece.Comment, length (take_while not_line_feed (b ∷ bs)))
comment_stands c b bs code e =
    let r = run not_line_feed bs in
    let h : not_line_feed b ≡ true = rw e refl in
    front_by c (b ∷ bs) (b ∷ r.front) r.rest _ _ (ap (λ (xs : List ℕ). b ∷ xs) r.split) (sym (ap length (first_run not_line_feed b bs h r)))
    (standing.comment r.front code refl (ap (λ (x : ℕ). x ∷ r.front) e) r.all r.ends)

quote_positive : (b : ℕ) → is_quote b ≡ true → 0 < b
quote_positive zero e = cc
quote_positive (suc b) e = omega arith

code_stands : (c : Context) (b : ℕ) (bs : List ℕ) → c.mode ≡ mode.Code → IsNoBlank b bs → (is_quote b ≡ true → FindsDocstrings (b ∷ bs)) → IsFront c (b ∷ bs) (code_piece c (b ∷ bs))
unfolding code_piece
code_stands c b bs code blank found =
    let P : Front → Type 0 = IsFront c (b ∷ bs) in
    let of_code : IsOfCode c.mode = rw code tt in
    by_if P ((b == 9) && c.at_front) _ _
    (λ e. let t = both (b == 9) c.at_front e in one c _ b bs (standing.tab code t.1 refl (single_byte b 9 t.0)))
    (λ e1. by_if P (b == 35) _ _ (λ e. comment_stands c b bs code (equal b 35 e))
    (λ e2. by_if P (is_quote b) _ _ (λ e. quoted_stands c b bs code e (found e))
    (λ e3. by_if P ((b == 102) && is_quote (slice_index bs 0)) _ _
    (λ e. let t = both (b == 102) (is_quote (slice_index bs 0)) e in
    two_by c _ b (slice_index bs 0) bs (quote_positive (slice_index bs 0) t.1) refl
    (standing.format_start (slice_index bs 0) code refl t.1 (ap (λ (x : ℕ). x ∷ slice_index bs 0 ∷ []) (equal b 102 t.0))))
    (λ e4. word_or_mark_stands c b bs of_code (λ k. e4) (other_in_code c b bs code blank e1 e2 e3)))))

-- F-strings.

expression_stands : (c : Context) (quote b : ℕ) (bs : List ℕ) → c.mode ≡ mode.Expression quote → is_quote quote ≡ true → IsNoBlank b bs → IsFront c (b ∷ bs) (expression_piece quote (b ∷ bs))
unfolding expression_piece
expression_stands c quote b bs part proper blank =
    let P : Front → Type 0 = IsFront c (b ∷ bs) in
    let of_code : IsOfCode c.mode = rw part proper in
    by_if P (b == 125) _ _ (λ e. one c _ b bs (standing.format_close quote part proper refl (single_byte b 125 e)))
    (λ e1. by_if P (b == quote) _ _ (λ e. one c _ b bs (standing.format_cut quote part proper refl (single_byte b quote e)))
    (λ e2. by_if P (b == 92) _ _ (λ e. escape bs (equal b 92 e))
    (λ e3. word_or_mark_stands c b bs of_code (λ k. absurd (not_code quote (sym part ∙ k))) (other_in_part c quote b bs part proper blank e1 e2 e3))))
  where
    escape : (ds : List ℕ) → b ≡ 92 → IsFront c (b ∷ ds) (after_backslash (slice_get (b ∷ ds) 1))
    escape [] e = one c _ b [] (standing.backslash_in_part quote part proper refl (ap (λ (x : ℕ). x ∷ []) e) tt)
    escape (d ∷ ds) e = by_if (IsFront c (b ∷ d ∷ ds)) (d == 10) _ _
        (λ f. one c _ b (d ∷ ds) (standing.backslash_in_part quote part proper refl (ap (λ (x : ℕ). x ∷ []) e) (rw f refl)))
        (λ f. front_by c (b ∷ d ∷ ds) (b ∷ d ∷ []) ds _ 2 refl refl (standing.escape_in_part d quote part proper refl (ap (λ (x : ℕ). x ∷ d ∷ []) e) (different d 10 f)))

brace_is : (b : ℕ) → is_brace b ≡ true → (b == 123) ≡ false → b ≡ 125
brace_is b e f = go (one_of (b == 123) (b == 125) e)
  where
    go : ((b == 123) ≡ true) ⊎ ((b == 125) ≡ true) → b ≡ 125
    go (inl k) = absurd (not_true (b == 123) f k)
    go (inr k) = equal b 125 k

brace_positive : (b : ℕ) → is_brace b ≡ true → 0 < b
brace_positive zero e = cc
brace_positive (suc b) e = omega arith

no_second : (b : ℕ) (bs : List ℕ) → (b == slice_index bs 0) ≡ false → EndsBefore (λ d. d == b) bs
no_second b [] e = tt
no_second b (d ∷ ds) e = not_equal d b (λ k. different b d e (sym k))

brace_stands : (c : Context) (quote b : ℕ) (bs : List ℕ) → c.mode ≡ mode.Format quote → is_quote quote ≡ true → is_brace b ≡ true → IsFront c (b ∷ bs) (brace_piece b (slice_index bs 0))
brace_stands c quote b bs literal proper h =
    let P : Front → Type 0 = IsFront c (b ∷ bs) in
    by_if P (b == slice_index bs 0) _ _
    (λ e. two_by c _ b b bs (brace_positive b h) (sym (equal b (slice_index bs 0) e)) (standing.brace b quote literal proper refl h refl))
    (λ e1. by_if P (b == 123) _ _
    (λ e. let k : b ≡ 123 = equal b 123 e in one c _ b bs (standing.format_open quote literal proper refl (ap (λ (x : ℕ). x ∷ []) k) (subst (λ (n : ℕ). EndsBefore (λ d. d == n) bs) k (no_second b bs e1))))
    (λ e2. let k : b ≡ 125 = brace_is b h e2 in one c _ b bs (standing.lone_brace quote literal proper refl (ap (λ (x : ℕ). x ∷ []) k) (subst (λ (n : ℕ). EndsBefore (λ d. d == n) bs) k (no_second b bs e1)))))

literal_front : (c : Context) (text bytes behind : List ℕ) (n : ℕ) (t : Token) → text ≡ bytes ++ behind → n ≡ length bytes → literal_token (said_from false bytes) ≡ t
    → Stands c (piece.Token t (are_printable bytes)) bytes behind → IsFront c text (literal_piece (take n text))
literal_front c text bytes behind n t split size e s =
    let front : take n text ≡ bytes = ap (λ (i : ℕ). take i text) size ∙ ap (λ (xs : List ℕ). take (length bytes) xs) split ∙ take-append_seam bytes behind in
    let u : Stands c (piece.Token (literal_token (said_from false bytes)) (are_printable bytes)) bytes behind = subst (λ (x : Token). Stands c (piece.Token x (are_printable bytes)) bytes behind) (sym e) s in
    subst (λ (xs : List ℕ). IsFront c text (literal_piece xs)) (sym front) (front_by c text bytes behind _ (length bytes) split refl u)

literal_stands : (c : Context) (quote b : ℕ) (bs : List ℕ) → c.mode ≡ mode.Format quote → is_quote quote ≡ true → goes_on quote b ≡ true
    → IsFront c (b ∷ bs) (literal_piece (take (literal_len quote false (b ∷ bs)) (b ∷ bs)))
literal_stands c quote b bs literal proper more =
    let k = literal_of quote (b ∷ bs) in
    go k.items k.rest k.split k.proper k.ends
  where
    go : (items : List Item) (rest : List ℕ) → b ∷ bs ≡ bytes_of items ++ rest → AreInLiteral quote items
        → EndsBefore (goes_on quote) rest ⊎ ((behind : List ℕ) × (rest ≡ 92 ∷ behind) × EndsBefore not_line_feed behind)
        → IsFront c (b ∷ bs) (literal_piece (take (literal_len quote false (b ∷ bs)) (b ∷ bs)))
    go items rest split are (inl e) =
        let size : literal_len quote false (b ∷ bs) ≡ length (bytes_of items) =
        ap (λ (xs : List ℕ). literal_len quote false xs) split ∙ literal_more quote items rest proper are ∙ ap (λ (n : ℕ). length (bytes_of items) + n) (literal_ends quote rest e) ∙ (let z : length (bytes_of items) + 0 ≡ length (bytes_of items) = omega arith in z) in
        literal_front c (b ∷ bs) (bytes_of items) rest _ (literal_token (said_by items)) split size (ap (λ (x : Option (List ℕ)). literal_token x) (said_literal quote items are))
        (standing.literal quote items literal proper refl refl (λ f. nothing (split ∙ ap (λ (xs : List ℕ). xs ++ rest) f)) are e)
      where
        nothing : b ∷ bs ≡ rest → ⊥
        nothing f = let h : EndsBefore (goes_on quote) (b ∷ bs) = subst (EndsBefore (goes_on quote)) (sym f) e in not_true (goes_on quote b) h more
    go items rest split are (inr (behind, f, e)) =
        let size : literal_len quote false (b ∷ bs) ≡ length (bytes_of items ++ 92 ∷ []) =
        ap (λ (xs : List ℕ). literal_len quote false xs) (split ∙ ap (λ (xs : List ℕ). bytes_of items ++ xs) f) ∙ literal_more quote items (92 ∷ behind) proper are ∙ ap (λ (n : ℕ). length (bytes_of items) + n) (cut_ends quote behind proper e) ∙ sym (length-append (bytes_of items) (92 ∷ [])) in
        literal_front c (b ∷ bs) (bytes_of items ++ 92 ∷ []) behind _ token.Invalid (split ∙ ap (λ (xs : List ℕ). bytes_of items ++ xs) f ∙ sym (append_assoc (bytes_of items) (92 ∷ []) behind)) size
        (ap (λ (x : Option (List ℕ)). literal_token x) (said_cut quote items are))
        (standing.cut_literal quote items literal proper refl refl are e)

format_stands : (c : Context) (quote b : ℕ) (bs : List ℕ) → c.mode ≡ mode.Format quote → is_quote quote ≡ true → IsFront c (b ∷ bs) (format_piece quote (b ∷ bs))
unfolding format_piece
format_stands c quote b bs literal proper =
    let P : Front → Type 0 = IsFront c (b ∷ bs) in
    by_if P (b == 10) _ _ (λ e. one c _ b bs (standing.line_feed refl (single_byte b 10 e)))
    (λ e1. by_if P (b == quote) _ _ (λ e. one c _ b bs (standing.format_end quote literal proper refl (single_byte b quote e)))
    (λ e2. by_if P (is_brace b) _ _ (λ e. brace_stands c quote b bs literal proper e)
    (λ e3. literal_stands c quote b bs literal proper (rw (e1, e2, e3) refl))))

piece_stands : (c : Context) (text : List ℕ) → HasQuote c.mode → 0 < length text → IsFront c text (piece_at c text)
unfolding piece_at
piece_stands c [] proper h = absurd (omega arith)
piece_stands c (b ∷ bs) proper h = go c.mode refl proper
  where
    go : (r : Mode) → c.mode ≡ r → HasQuote r → IsFront c (b ∷ bs) (piece_in r c (b ∷ bs))
    go mode.Code e k = blank_or c b bs _ (rw e tt) (λ h. code_stands c b bs e h (λ f. finds_docstring (b ∷ bs)))
    go (mode.Expression quote) e k = blank_or c b bs _ (rw e k) (λ h. expression_stands c quote b bs e k h)
    go (mode.Format quote) e k = format_stands c quote b bs e k

-- Behind a piece that stands the mode has a quote again.

keeps : (p q : Piece) (r : Mode) → p ≡ q → HasQuote (mode_after r q) → HasQuote (mode_after r p)
keeps p q r e h = subst (λ (x : Piece). HasQuote (mode_after r x)) (sym e) h

part_keeps : (r s : Mode) → r ≡ s → HasQuote (mode_after s piece.FormatOpen) → HasQuote (mode_after r piece.FormatOpen)
part_keeps r s e h = subst (λ (x : Mode). HasQuote (mode_after x piece.FormatOpen)) (sym e) h

literal_keeps : (r s : Mode) → r ≡ s → HasQuote (mode_after s piece.FormatClose) → HasQuote (mode_after r piece.FormatClose)
literal_keeps r s e h = subst (λ (x : Mode). HasQuote (mode_after x piece.FormatClose)) (sym e) h

docstring_keeps : (p : Piece) (bytes rest : List ℕ) (r : Mode) → IsDocstring p bytes rest → HasQuote r → HasQuote (mode_after r p)
docstring_keeps p bytes rest r (standing.short quote items a b d e f) h = keeps p _ r f h
docstring_keeps p bytes rest r (standing.long items a b d f) h = keeps p _ r f h
docstring_keeps p bytes rest r (standing.endless body a b d f) h = keeps p _ r f h

keeps_quote : (c : Context) (p : Piece) (bytes rest : List ℕ) → Stands c p bytes rest → HasQuote c.mode → HasQuote (mode_after c.mode p)
keeps_quote c p bytes rest (standing.line_feed e f) h = keeps p _ c.mode e tt
keeps_quote c p bytes rest (standing.carriage_return k e f) h = keeps p _ c.mode e tt
keeps_quote c p bytes rest (standing.space k e f) h = keeps p _ c.mode e h
keeps_quote c p bytes rest (standing.tab k l e f) h = keeps p _ c.mode e h
keeps_quote c p bytes rest (standing.comment body k e f g i) h = keeps p _ c.mode e h
keeps_quote c p bytes rest (standing.word k e f g i j) h = keeps p _ c.mode e h
keeps_quote c p bytes rest (standing.number k e f g i) h = keeps p _ c.mode e h
keeps_quote c p bytes rest (standing.open_bracket b k e f) h = keeps p _ c.mode e h
keeps_quote c p bytes rest (standing.close_bracket b k e f) h = keeps p _ c.mode e h
keeps_quote c p bytes rest (standing.mark op k e f g) h = keeps p _ c.mode e h
keeps_quote c p bytes rest (standing.no_form b k e f g i) h = keeps p _ c.mode e h
keeps_quote c p bytes rest (standing.closing_brace k e f) h = keeps p _ c.mode e h
keeps_quote c p bytes rest (standing.hash_in_part quote k l e f) h = keeps p _ c.mode e h
keeps_quote c p bytes rest (standing.quote_in_part b quote k l e f g i) h = keeps p _ c.mode e h
keeps_quote c p bytes rest (standing.bad_byte b k e f g i j l) h = keeps p _ c.mode e h
keeps_quote c p bytes rest (standing.backslash k e f) h = keeps p _ c.mode e h
keeps_quote c p bytes rest (standing.text quote items k e f g i j) h = keeps p _ c.mode e h
keeps_quote c p bytes rest (standing.open_text quote body k e f g i j l) h = keeps p _ c.mode e h
keeps_quote c p bytes rest (standing.docstring k l d) h = docstring_keeps p bytes rest c.mode d h
keeps_quote c p bytes rest (standing.format_start quote k e f g) h = keeps p _ c.mode e f
keeps_quote c p bytes rest (standing.format_end quote k l e f) h = keeps p _ c.mode e tt
keeps_quote c p bytes rest (standing.brace b quote k l e f g) h = keeps p _ c.mode e h
keeps_quote c p bytes rest (standing.format_open quote k l e f g) h = keeps p _ c.mode e (part_keeps c.mode _ k l)
keeps_quote c p bytes rest (standing.lone_brace quote k l e f g) h = keeps p _ c.mode e h
keeps_quote c p bytes rest (standing.literal quote items k l e f g i j) h = keeps p _ c.mode e h
keeps_quote c p bytes rest (standing.cut_literal quote items k l e f g i) h = keeps p _ c.mode e h
keeps_quote c p bytes rest (standing.format_close quote k l e f) h = keeps p _ c.mode e (literal_keeps c.mode _ k l)
keeps_quote c p bytes rest (standing.format_cut quote k l e f) h = keeps p _ c.mode e tt
keeps_quote c p bytes rest (standing.escape_in_part b quote k l e f g) h = keeps p _ c.mode e h
keeps_quote c p bytes rest (standing.backslash_in_part quote k l e f g) h = keeps p _ c.mode e h

pub spelled : (a : Place) (text : List ℕ) (ps : List Piece) → HasQuote a.mode → IsMadeOf a text ps → IsSpelled a ps text
unfolding place_after
spelled a text [] proper m = m
spelled a text (p ∷ ps) proper m =
    let f = piece_stands (context_of a) text proper m.0 in
    let x : Front = piece_at (context_of a) text in
    let stands : Stands (context_of a) p f.bytes f.rest = subst (λ (q : Piece). Stands (context_of a) q f.bytes f.rest) m.1 f.stands in
    let left : drop x.1 text ≡ f.rest =
    ap (λ (n : ℕ). drop n text) (sym f.size) ∙ ap (λ (t : List ℕ). drop (length f.bytes) t) f.split ∙ drop-append_seam f.bytes f.rest in (
      f.bytes,
      f.rest,
      f.split,
      stands,
      subst (λ (t : List ℕ). IsSpelled (place_after a p) ps t) left (spelled (place_after a p) (drop x.1 text) ps (next stands) m.2),
    )
  where
    next : {bytes rest : List ℕ} → Stands (context_of a) p bytes rest → HasQuote (place_after a p).mode
    next s = keeps_quote (context_of a) p _ _ s proper

-- What stands at a place, and what the code finds there.
use Rattle.std.proofs.Common.{◌≡◌, ℕ, ◌+◌, Bool, true, false, cond, eqb, List, [], ◌∷◌, ◌++◌, length, get_or, take, drop, Option, Some}
use Rattle.std.proofs.Common.{None, ap, ◌∙◌, sym, refl, subst, ⊎_elim, inl, inr, eq-eqb, ne_eqb, eqb-true}
use lib.Chars.{codes}
use Rattle.std.proofs.lemmas.Bool.{cases_Bool, cond-true, cond-false, false≢true}
use Rattle.v_lex.specs.declared.bytes.ByteClass.TheVariants as class
use Rattle.v_lex.specs.declared.directive.Directive.{Directive}
use Rattle.v_lex.specs.declared.directive.Content.{Content}
use Rattle.v_lex.specs.declared.directive.Content.TheVariants as content
use Rattle.v_lex.specs.declared.directive.Piece.{Piece}
use Rattle.v_lex.specs.Bytes.{run, is_separator}
use Rattle.v_lex.specs.DirectiveWords.{directive_of}
use Rattle.v_lex.specs.Comments.{piece, gap, comment_at, directive_of_parts}
use Rattle.v_lex.specs.DirectiveScan.{directive_at, is_conditional}
use Rattle.v_lex.specs.Pieces.{text_len, token_from, comment_or, closed_text_or_byte, conditional_or_byte, skipped_from, taken_or_skipped}
use Rattle.v_lex.specs.Pieces.{piece_at}
use Rattle.v_lex.specs.Spelling.{AllIn, IsQuoted}
use Rattle.v_lex.specs.Gaps.{BeginsComment}
use Rattle.v_lex.specs.Directives.{IsDirective, BeginsConditional}
use Rattle.v_lex.specs.Row.{IsSkipped, CommentStands, TakenStands, SkippedStands, Stands}
use Rattle.v_lex.proofs.Splits.{split}
use Rattle.v_lex.proofs.WordLaws.{begins_of}
use Rattle.v_lex.proofs.CommentLaws as comments
use Rattle.v_lex.proofs.TakenFronts.{taken_at, taken_is, taken_stands, from_backquote, quotes, len_split, len_closed, quoted_again}
use Rattle.v_lex.proofs.TakenFronts.{quoted_length}
use Rattle.v_lex.proofs.DirectiveFronts as directives

-- ---- parts that aren't taken

abbrev pub skipped_at : List ℕ → Piece
skipped_at [] = gap 0
skipped_at (b ∷ bs) = skipped_from b bs

-- a text that is closed on its line
text_closed : (after : List ℕ) (n : ℕ) → text_len after ≡ Some n → (inside behind : List ℕ) × (after ≡ inside ++ (34 ∷ behind))
    × AllIn class.Text inside × (n ≡ length inside)
text_closed after n e =
    let s = split class.Text after in
    let l : text_len after ≡ cond (quotes s.rest) (Some (length s.front)) None =
    ap text_len s.is ∙ len_split s.front s.rest s.all s.stops in
    ⊎_elim
    (λ (t : quotes s.rest ≡ true).
    let is : Some (length s.front) ≡ Some n = sym (l ∙ cond-true (quotes s.rest) (Some (length s.front)) None t) ∙ e in
    let same : n ≡ length s.front = cc in
    (s.front, drop 1 s.rest, s.is ∙ ap (λ (xs : List ℕ). s.front ++ xs) (begins_of s.rest (codes "\"") t), s.all, same))
    (λ (t : quotes s.rest ≡ false). let bad : None ≡ Some n = sym (l ∙ cond-false (quotes s.rest) (Some (length s.front)) None t)
    ∙ e in absurd cc)
    (cases_Bool (quotes s.rest))

skipped_directive : (d : Directive) (bytes behind : List ℕ) → BeginsConditional (bytes ++ behind) → IsDirective d bytes behind
    → skipped_at (bytes ++ behind) ≡ piece (length bytes) (content.Directive d)
skipped_directive d bytes behind h k =
    let r = directives.read d bytes behind k in
    let t : directives.conditional_at r.after ≡ true = directives.conditional_is r.after (subst BeginsConditional r.is h) in
    ap skipped_at r.is ∙ cond-true (directives.conditional_at r.after) (directive_at r.after) (gap 1) t ∙ r.found

skipped_byte : (byte : ℕ) (behind : List ℕ) → ((front rest inside : List ℕ) → byte ∷ behind ≡ front ++ rest → IsQuoted front inside → ⊥)
    → (BeginsConditional (byte ∷ behind) → ⊥) → skipped_from byte behind ≡ gap 1
skipped_byte byte behind q t =
    ⊎_elim
    (λ (a : eqb byte 34 ≡ true). cond-true (eqb byte 34) _ _ a ∙ unclosed (eqb-true byte 34 a) (text_len behind) refl)
    (λ (a : eqb byte 34 ≡ false). cond-false (eqb byte 34) _ _ a ∙ ⊎_elim
    (λ (c : eqb byte 96 ≡ true). cond-true (eqb byte 96) _ _ c ∙ other (eqb-true byte 96 c))
    (λ (c : eqb byte 96 ≡ false). cond-false (eqb byte 96) _ _ c)
    (cases_Bool (eqb byte 96)))
    (cases_Bool (eqb byte 34))
  where
    unclosed : byte ≡ 34 → (o : Option ℕ) → text_len behind ≡ o → closed_text_or_byte (text_len behind) ≡ gap 1
    unclosed a None e = ap closed_text_or_byte e
    unclosed a (Some n) e =
        let c = text_closed behind n e in
        let whole : byte ∷ behind ≡ (34 ∷ (c.0 ++ (34 ∷ []))) ++ c.1 =
        ap (λ (x : ℕ). x ∷ behind) a ∙ ap (λ (xs : List ℕ). 34 ∷ xs) c.2
        ∙ sym (quoted_again (34 ∷ (c.0 ++ (34 ∷ []))) c.1 c.0 (refl, c.3)) in
        absurd (q (34 ∷ (c.0 ++ (34 ∷ []))) c.1 c.0 whole (refl, c.3))

    other : byte ≡ 96 → conditional_or_byte behind (directive_of (take (run class.Name behind) behind)) ≡ gap 1
    other c = ⊎_elim
        (λ (k : is_conditional (directive_of (take (run class.Name behind) behind)) ≡ true).
        absurd (t (subst (λ (x : ℕ). BeginsConditional (x ∷ behind)) (sym c) (directives.conditional_begins behind k))))
        (λ (k : is_conditional (directive_of (take (run class.Name behind) behind)) ≡ false).
        cond-false (is_conditional (directive_of (take (run class.Name behind) behind))) (directive_at behind) (gap 1) k)
        (cases_Bool (is_conditional (directive_of (take (run class.Name behind) behind))))

skipped_is : (c : Content) (bytes behind : List ℕ) → SkippedStands c bytes behind → skipped_at (bytes ++ behind) ≡ piece (length bytes) c
skipped_is content.Gap bytes behind h = ⊎_elim
    (λ (k : (inside : List ℕ) × IsQuoted bytes inside).
    ap skipped_at (quoted_again bytes behind k.0 k.1) ∙ ap closed_text_or_byte (len_closed k.0 behind k.1.1)
    ∙ ap (λ (n : ℕ). gap n) (quoted_length bytes k.0 k.1))
    (λ (k : IsSkipped bytes behind). ap (λ (xs : List ℕ). skipped_at (xs ++ behind)) k.is ∙ skipped_byte k.byte behind k.quotes k.directs
    ∙ ap (λ (xs : List ℕ). gap (length xs)) (sym k.is))
    h
skipped_is (content.Token t) bytes behind h = absurd h
skipped_is (content.Directive d) bytes behind h = skipped_directive d bytes behind h.0 h.1
skipped_is (content.Broken r) bytes behind h = absurd h

-- what stands at the front of a part
pub record Standing (is_taken : Bool) (text : List ℕ) (p : Piece) : Type 0 where
  pub bytes : List ℕ
  pub behind : List ℕ
  pub is : text ≡ bytes ++ behind
  pub size : p.size ≡ length bytes
  pub stands : Stands is_taken p.content bytes behind

record Skipped (text : List ℕ) (p : Piece) : Type 0 where
  bytes : List ℕ
  behind : List ℕ
  is : text ≡ bytes ++ behind
  size : p.size ≡ length bytes
  stands : SkippedStands p.content bytes behind

one_byte : (b : ℕ) (bs : List ℕ) → ((front rest inside : List ℕ) → b ∷ bs ≡ front ++ rest → IsQuoted front inside → ⊥)
    → (BeginsConditional (b ∷ bs) → ⊥) → Skipped (b ∷ bs) (skipped_from b bs)
one_byte b bs q t =
    subst (Skipped (b ∷ bs)) (sym (skipped_byte b bs q t))
    (record {
      bytes = b ∷ [];
      behind = bs;
      is = refl;
      size = refl;
      stands = inr (record { byte = b; is = refl; quotes = q; directs = t });
    })

quoted_first : (b : ℕ) (bs front rest inside : List ℕ) → b ∷ bs ≡ front ++ rest → IsQuoted front inside
    → (b ≡ 34) × (bs ≡ inside ++ (34 ∷ rest))
quoted_first b bs front rest inside e h =
    let whole = e ∙ quoted_again front rest inside h in
    (ap (λ (xs : List ℕ). get_or xs 0 0) whole, ap (drop 1) whole)

unequal : (b n : ℕ) → eqb b n ≡ false → b ≡ n → ⊥
unequal b n e q = false≢true (sym e ∙ eq-eqb b n q)

some_none : {A : Type 0} (x : A) → None ≡ Some x → ⊥
some_none x e = cc

at_quote : (bs : List ℕ) (o : Option ℕ) → text_len bs ≡ o → Skipped (34 ∷ bs) (skipped_from 34 bs)
at_quote bs None e = one_byte 34 bs
    (λ front rest inside w h. let f = quoted_first 34 bs front rest inside w h in
    some_none (length inside) (sym e ∙ ap text_len f.1 ∙ len_closed inside rest h.1))
    (λ h. unequal 34 96 refl (ap (λ (xs : List ℕ). get_or xs 0 0) h.3))
at_quote bs (Some n) e =
    let c = text_closed bs n e in
    let p : skipped_from 34 bs ≡ gap (2 + length c.0) = ap closed_text_or_byte e ∙ ap (λ (k : ℕ). gap (2 + k)) c.4 in
    subst (Skipped (34 ∷ bs)) (sym p)
    (record {
      bytes = 34 ∷ (c.0 ++ (34 ∷ []));
      behind = c.1;
      is = ap (λ (xs : List ℕ). 34 ∷ xs) c.2 ∙ sym (quoted_again (34 ∷ (c.0 ++ (34 ∷ []))) c.1 c.0 (refl, c.3));
      size = quoted_length (34 ∷ (c.0 ++ (34 ∷ []))) c.0 (refl, c.3);
      stands = inl (c.0, (refl, c.3));
    })

at_backquote : (bs : List ℕ) → Skipped (96 ∷ bs) (skipped_from 96 bs)
at_backquote bs =
    ⊎_elim
    (λ (k : is_conditional (directive_of (take (run class.Name bs) bs)) ≡ true).
    let f = directives.found bs in
    let p : skipped_from 96 bs ≡ directive_of_parts (length f.bytes) f.kind =
    cond-true (is_conditional (directive_of (take (run class.Name bs) bs))) (directive_at bs) (gap 1) k ∙ f.found in
    subst (Skipped (96 ∷ bs)) (sym p)
    (record {
      bytes = f.bytes;
      behind = f.behind;
      is = f.is;
      size = refl;
      stands = (subst BeginsConditional f.is (directives.conditional_begins bs k), f.stands);
    }))
    (λ (k : is_conditional (directive_of (take (run class.Name bs) bs)) ≡ false).
    one_byte 96 bs
    (λ front rest inside w h. unequal 96 34 refl (quoted_first 96 bs front rest inside w h).0)
    (λ h. false≢true (sym k ∙ directives.conditional_is bs h)))
    (cases_Bool (is_conditional (directive_of (take (run class.Name bs) bs))))

skipped_stands : (b : ℕ) (bs : List ℕ) → Skipped (b ∷ bs) (skipped_from b bs)
skipped_stands b bs =
    ⊎_elim
    (λ (q : eqb b 34 ≡ true). subst (λ (x : ℕ). Skipped (x ∷ bs) (skipped_from x bs)) (sym (eqb-true b 34 q))
    (at_quote bs (text_len bs) refl))
    (λ (q : eqb b 34 ≡ false). ⊎_elim
    (λ (t : eqb b 96 ≡ true). subst (λ (x : ℕ). Skipped (x ∷ bs) (skipped_from x bs)) (sym (eqb-true b 96 t)) (at_backquote bs))
    (λ (t : eqb b 96 ≡ false). one_byte b bs
    (λ front rest inside w h. unequal b 34 q (quoted_first b bs front rest inside w h).0)
    (λ h. unequal b 96 t (ap (λ (xs : List ℕ). get_or xs 0 0) h.3)))
    (cases_Bool (eqb b 96)))
    (cases_Bool (eqb b 34))

-- ---- both kinds of parts

at_step : (is_taken : Bool) (b : ℕ) (bs : List ℕ)
    → piece_at is_taken (b ∷ bs) ≡ cond (is_separator b) (gap 1) (comment_or (taken_or_skipped is_taken b bs) (comment_at (b ∷ bs)))
unfolding piece_at
at_step is_taken b bs = refl

at_nil : (is_taken : Bool) → piece_at is_taken [] ≡ gap 0
unfolding piece_at
at_nil is_taken = refl

skipped_separator : (b : ℕ) (bs : List ℕ) → is_separator b ≡ true → skipped_from b bs ≡ gap 1
skipped_separator b bs h =
    let q : eqb b 34 ≡ false = ne_eqb b 34 (λ e. false≢true (subst (λ (x : ℕ). is_separator x ≡ true) e h)) in
    let t : eqb b 96 ≡ false = ne_eqb b 96 (λ e. false≢true (subst (λ (x : ℕ). is_separator x ≡ true) e h)) in
    cond-false (eqb b 34) _ _ q ∙ cond-false (eqb b 96) _ _ t

taken_piece : (text : List ℕ) → comment_at text ≡ None → piece_at true text ≡ taken_at text
taken_piece [] e = at_nil true
taken_piece (b ∷ bs) e = at_step true b bs ∙ ap (λ o. cond (is_separator b) (gap 1) (comment_or (token_from b bs (b ∷ bs)) o)) e

skipped_piece : (text : List ℕ) → comment_at text ≡ None → piece_at false text ≡ skipped_at text
skipped_piece [] e = at_nil false
skipped_piece (b ∷ bs) e =
    at_step false b bs ∙ ap (λ o. cond (is_separator b) (gap 1) (comment_or (skipped_from b bs) o)) e
    ∙ ⊎_elim
    (λ (t : is_separator b ≡ true). cond-true (is_separator b) _ _ t ∙ sym (skipped_separator b bs t))
    (λ (t : is_separator b ≡ false). cond-false (is_separator b) _ _ t)
    (cases_Bool (is_separator b))

comment_piece : (is_taken : Bool) (rest : List ℕ) (p : Piece) → comment_at (47 ∷ rest) ≡ Some p → piece_at is_taken (47 ∷ rest) ≡ p
comment_piece is_taken rest p e = at_step is_taken 47 rest ∙ ap (comment_or (taken_or_skipped is_taken 47 rest)) e

comment_is : (is_taken : Bool) (c : Content) (bytes behind : List ℕ) → CommentStands c bytes behind
    → piece_at is_taken (bytes ++ behind) ≡ piece (length bytes) c
comment_is is_taken c bytes behind h =
    let f = comments.comment_first c bytes behind h in
    ap (piece_at is_taken) f.1
    ∙ comment_piece is_taken f.0 (piece (length bytes) c) (sym (ap comment_at f.1) ∙ comments.comment_is c bytes behind h)

taken_directive : (bytes behind : List ℕ) (d : Directive) → IsDirective d bytes behind
    → taken_at (bytes ++ behind) ≡ piece (length bytes) (content.Directive d)
taken_directive bytes behind d h = let r = directives.read d bytes behind h in ap taken_at r.is ∙ from_backquote r.after ∙ r.found

pub stands_is : (is_taken : Bool) (c : Content) (bytes behind : List ℕ) → Stands is_taken c bytes behind
    → piece_at is_taken (bytes ++ behind) ≡ piece (length bytes) c
stands_is true c bytes behind h = ⊎_elim
    (λ (k : CommentStands c bytes behind). comment_is true c bytes behind k)
    (λ (k : (BeginsComment (bytes ++ behind) → ⊥) × TakenStands c bytes behind).
    taken_piece (bytes ++ behind) (comments.no_comment (bytes ++ behind) k.0)
    ∙ taken_is c bytes behind (taken_directive bytes behind) k.1)
    h
stands_is false c bytes behind h = ⊎_elim
    (λ (k : CommentStands c bytes behind). comment_is false c bytes behind k)
    (λ (k : (BeginsComment (bytes ++ behind) → ⊥) × SkippedStands c bytes behind).
    skipped_piece (bytes ++ behind) (comments.no_comment (bytes ++ behind) k.0) ∙ skipped_is c bytes behind k.1)
    h

comment_stands : (is_taken : Bool) (text : List ℕ) → comments.Found text → BeginsComment text
    → Standing is_taken text (piece_at is_taken text)
comment_stands is_taken text f h =
    let s = f.standing in
    let first : (rest : List ℕ) × (text ≡ 47 ∷ rest) =
    ⊎_elim (λ (e : text ≡ 47 ∷ 47 ∷ h.0). (47 ∷ h.0, e)) (λ (e : text ≡ 47 ∷ 42 ∷ h.0). (42 ∷ h.0, e)) h.1 in
    let p : piece_at is_taken text ≡ f.piece =
    ap (piece_at is_taken) first.1 ∙ comment_piece is_taken first.0 f.piece (sym (ap comment_at first.1) ∙ f.is) in
    subst (Standing is_taken text) (sym p)
    (record { bytes = s.bytes; behind = s.behind; is = s.is; size = s.size; stands = inl s.stands })

pub piece_stands : (is_taken : Bool) (b : ℕ) (bs : List ℕ) → Standing is_taken (b ∷ bs) (piece_at is_taken (b ∷ bs))
piece_stands is_taken b bs = ⊎_elim
    (λ (f : comments.Found (b ∷ bs) × BeginsComment (b ∷ bs)). comment_stands is_taken (b ∷ bs) f.0 f.1)
    (λ (k : (comment_at (b ∷ bs) ≡ None) × (BeginsComment (b ∷ bs) → ⊥)). other is_taken k.0 k.1)
    (comments.found_or_none (b ∷ bs))
  where
    other : (t : Bool) → comment_at (b ∷ bs) ≡ None → (BeginsComment (b ∷ bs) → ⊥) → Standing t (b ∷ bs) (piece_at t (b ∷ bs))
    other true e no_comment =
        let s = taken_stands b bs directives.directive_stands in
        subst (Standing true (b ∷ bs)) (sym (taken_piece (b ∷ bs) e))
        (record {
          bytes = s.bytes;
          behind = s.behind;
          is = s.is;
          size = s.size;
          stands = inr ((λ h. no_comment (subst BeginsComment (sym s.is) h)), s.stands);
        })
    other false e no_comment =
        let s = skipped_stands b bs in
        subst (Standing false (b ∷ bs)) (sym (skipped_piece (b ∷ bs) e))
        (record {
          bytes = s.bytes;
          behind = s.behind;
          is = s.is;
          size = s.size;
          stands = inr ((λ h. no_comment (subst BeginsComment (sym s.is) h)), s.stands);
        })

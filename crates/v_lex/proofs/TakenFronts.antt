-- What stands at the front of a part that is taken, and what the code finds there.
use Rattle.std.proofs.Common.{◌≡◌, ℕ, ◌+◌, ◌<◌, Bool, true, false, ◌||◌, not, cond, eqb, List, [], ◌∷◌, ◌++◌, length, get_or, drop}
use Rattle.std.proofs.Common.{Option, Some, None, ap, ◌∙◌, sym, refl, subst, ⊎_elim, inl, inr, ◌⊎◌, nat_eq, append_assoc, eq-eqb, ne_eqb}
use Rattle.std.proofs.Common.{eqb-true, arith}
use Rattle.std.specs.List.{starts_with, list_all}
use lib.Chars.{codes}
use lib.Seq.{take-append_seam, drop-append_seam}
use Rattle.std.proofs.lemmas.Bool.{cases_Bool, or_cases, or_from, or_left, and_parts, and_cases, cond-true, cond-false, false≢true}
use Rattle.std.proofs.lemmas.List.{length-append}
use Rattle.four_value.specs.declared.Digit.{Digit}
use Rattle.v_syntax.specs.declared.token.Token.{Token}
use Rattle.v_syntax.specs.declared.token.Token.TheVariants as token
use Rattle.v_syntax.specs.declared.word.SystemTask.{SystemTask}
use Rattle.v_syntax.specs.declared.mark.Mark.{Mark}
use Rattle.v_syntax.specs.declared.mark.Mark.TheVariants.{CaseEqual}
use Rattle.v_syntax.specs.Words.{task_of}
use Rattle.v_syntax.specs.Marks.{mark_spelling, mark_at}
use Rattle.v_lex.specs.declared.base.Base.{Base}
use Rattle.v_lex.specs.declared.bytes.ByteClass.TheVariants as class
use Rattle.v_lex.specs.declared.directive.Directive.{Directive}
use Rattle.v_lex.specs.declared.directive.Content.{Content}
use Rattle.v_lex.specs.declared.directive.Content.TheVariants as content
use Rattle.v_lex.specs.declared.directive.LexRule.TheVariants as rule
use Rattle.v_lex.specs.declared.directive.Piece.{Piece}
use Rattle.v_lex.specs.Bytes.{run, is_in, is_digit, is_name_start, is_separator}
use Rattle.v_lex.specs.Comments.{piece, gap, broken, token_of}
use Rattle.v_lex.specs.Pieces.{number_or_bad, plain_value, based_value, base_at, number_with, number_at, word_token, word_at, task_or_bad}
use Rattle.v_lex.specs.Pieces.{task_at, mark_or_bad, mark_piece, text_len, text_to, text_at, token_from}
use Rattle.v_lex.specs.DirectiveScan.{directive_at}
use Rattle.v_lex.specs.Spelling.{AllIn, Form, Word, SystemName, Number, Quoted, Sign, HasForm, IsLongest, IsWord, IsSystemName, IsDecimal}
use Rattle.v_lex.specs.Spelling.{IsSize, IsBased, IsNumber, IsQuoted, NumberOf, Spells}
use Rattle.v_lex.specs.Gaps.{Stops}
use Rattle.v_lex.specs.Row.{IsOpenText, IsNoToken, IsStray, TakenStands}
use Rattle.v_lex.proofs.Splits.{split, run_is, one_split}
use Rattle.v_lex.proofs.FormKinds.{kind_of, kind_is, some_same, starts_range, between, above, has_some}
use Rattle.v_lex.proofs.WrittenNumbers.{plain_of, based_of}
use Rattle.v_lex.proofs.WordLaws.{longest_of, task_found, task_is, word_spells, name_token, keyword_token, reserved_token, sign_is}
use Rattle.v_lex.proofs.WordLaws.{sign_longest, no_sign, begins_is, begins_of}
use Rattle.v_lex.proofs.TokenFronts.{Standing, spells_form, form_same, word_stops, name_stops, word_longest, name_longest, word_piece}
use Rattle.v_lex.proofs.TokenFronts.{task_piece, at_split, base_is, BaseFront, base_front, number_token, number_bad, plain_longest}
use Rattle.v_lex.proofs.TokenFronts.{based_longest, plain_piece, based_piece, not_nil}

-- what the code finds there, comments apart
abbrev pub taken_at : List ℕ → Piece
taken_at [] = gap 0
taken_at (b ∷ bs) = cond (is_separator b) (gap 1) (token_from b bs (b ∷ bs))

-- ---- first bytes

no_separator : (b : ℕ) → 32 < b → is_separator b ≡ false
no_separator b h =
    let other : (n : ℕ) → n < 33 → eqb b n ≡ false = λ n k. ne_eqb b n (λ e. omega (arith, h, k, e)) in
    or_from (eqb b 32 || eqb b 9 || eqb b 10 || eqb b 13) (eqb b 12)
    (or_from (eqb b 32 || eqb b 9 || eqb b 10) (eqb b 13)
    (or_from (eqb b 32 || eqb b 9) (eqb b 10) (or_from (eqb b 32) (eqb b 9) (other 32 (omega arith)) (other 9 (omega arith)))
    (other 10 (omega arith)))
    (other 13 (omega arith)))
    (other 12 (omega arith))

from_word : (b : ℕ) (bs : List ℕ) → is_name_start b ≡ true → taken_at (b ∷ bs) ≡ word_at (b ∷ bs)
from_word b bs h =
    let r = starts_range b h in
    let q : eqb b 34 ≡ false = ne_eqb b 34 (λ e. omega (arith, r.0, e)) in
    let t : eqb b 96 ≡ false = ne_eqb b 96 r.1 in
    let d : (is_digit b || eqb b 39) ≡ false =
    or_from (is_digit b) (eqb b 39) (above 48 57 b r.0) (ne_eqb b 39 (λ e. omega (arith, r.0, e))) in
    let s = no_separator b (omega (arith, r.0)) in
    cond-false (is_separator b) _ _ s ∙ cond-false (eqb b 34) _ _ q ∙ cond-false (eqb b 96) _ _ t
    ∙ cond-false (is_digit b || eqb b 39) _ _ d ∙ cond-true (is_name_start b) _ _ h

from_digit : (b : ℕ) (bs : List ℕ) → is_digit b ≡ true → taken_at (b ∷ bs) ≡ number_at (b ∷ bs)
from_digit b bs h =
    let r = between 48 57 b h in
    let q : eqb b 34 ≡ false = ne_eqb b 34 (λ e. omega (arith, r.0, e)) in
    let t : eqb b 96 ≡ false = ne_eqb b 96 (λ e. omega (arith, r.1, e)) in
    let s = no_separator b (omega (arith, r.0)) in
    cond-false (is_separator b) _ _ s ∙ cond-false (eqb b 34) _ _ q ∙ cond-false (eqb b 96) _ _ t
    ∙ cond-true (is_digit b || eqb b 39) _ _ (or_left (is_digit b) (eqb b 39) h)

from_apostrophe : (bs : List ℕ) → taken_at (39 ∷ bs) ≡ number_at (39 ∷ bs)
from_apostrophe bs = refl

from_dollar : (bs : List ℕ) → taken_at (36 ∷ bs) ≡ task_at (36 ∷ bs)
from_dollar bs = refl

from_quote : (bs : List ℕ) → taken_at (34 ∷ bs) ≡ text_at bs
from_quote bs = refl

pub from_backquote : (bs : List ℕ) → taken_at (96 ∷ bs) ≡ directive_at bs
from_backquote bs = refl

sign_high : (m : Mark) → taken_at (get_or (mark_spelling m) 0 0 ∷ []) ≡ mark_piece (get_or (mark_spelling m) 0 0 ∷ [])
sign_high CaseEqual = refl
sign_high _ = refl

from_sign : (m : Mark) (bs : List ℕ) → taken_at (get_or (mark_spelling m) 0 0 ∷ bs) ≡ mark_piece (get_or (mark_spelling m) 0 0 ∷ bs)
from_sign CaseEqual bs = refl
from_sign _ bs = refl

taken_word : (bytes behind : List ℕ) → IsWord bytes → taken_at (bytes ++ behind) ≡ word_at (bytes ++ behind)
taken_word [] behind h = absurd h
taken_word (b ∷ bs) behind h = from_word b (bs ++ behind) h.0

taken_name : (bytes behind : List ℕ) → IsSystemName bytes → taken_at (bytes ++ behind) ≡ task_at (bytes ++ behind)
taken_name [] behind h = absurd h
taken_name (b ∷ bs) behind h =
    subst (λ (x : ℕ). taken_at (x ∷ (bs ++ behind)) ≡ task_at (x ∷ (bs ++ behind))) (sym h.0) (from_dollar (bs ++ behind))

taken_decimal : (bytes behind : List ℕ) → IsDecimal bytes → taken_at (bytes ++ behind) ≡ number_at (bytes ++ behind)
taken_decimal [] behind h = absurd h
taken_decimal (b ∷ bs) behind h = from_digit b (bs ++ behind) h.0

taken_sized : (size rest : List ℕ) → IsSize size → taken_at (size ++ 39 ∷ rest) ≡ number_at (size ++ 39 ∷ rest)
taken_sized size rest s = ⊎_elim
    (λ (e : size ≡ []). subst (λ (xs : List ℕ). taken_at (xs ++ 39 ∷ rest) ≡ number_at (xs ++ 39 ∷ rest)) (sym e) (from_apostrophe rest))
    (λ (d : IsDecimal size). taken_decimal size (39 ∷ rest) d)
    s

taken_number : (bytes behind : List ℕ) → IsNumber bytes → taken_at (bytes ++ behind) ≡ number_at (bytes ++ behind)
taken_number bytes behind h = ⊎_elim
    (λ (d : IsDecimal bytes). taken_decimal bytes behind d)
    (λ (p : (size written : List ℕ) × (base : Base) × IsBased bytes size written base).
    let b = p.3 in
    let e : bytes ++ behind ≡ p.0 ++ (39 ∷ b.letter ∷ (p.1 ++ behind)) =
    ap (λ (xs : List ℕ). xs ++ behind) b.is ∙ append_assoc p.0 (39 ∷ b.letter ∷ p.1) behind in
    subst (λ (xs : List ℕ). taken_at xs ≡ number_at xs) (sym e) (taken_sized p.0 (b.letter ∷ (p.1 ++ behind)) b.sized))
    h

taken_sign : (bytes behind : List ℕ) (m : Mark) → bytes ≡ mark_spelling m → taken_at (bytes ++ behind) ≡ mark_piece (bytes ++ behind)
taken_sign [] behind m e = absurd (has_some Sign (m, e))
taken_sign (b ∷ bs) behind m e =
    subst (λ (x : ℕ). taken_at (x ∷ (bs ++ behind)) ≡ mark_piece (x ∷ (bs ++ behind))) (sym (ap (λ (xs : List ℕ). get_or xs 0 0) e))
    (from_sign m (bs ++ behind))

-- ---- texts

text_step : (after : List ℕ) → text_at after ≡ text_to after (text_len after)
unfolding text_at
text_step after = refl

abbrev pub quotes : List ℕ → Bool
quotes text = starts_with nat_eq text (codes "\"")

pub len_split : (inside rest : List ℕ) → AllIn class.Text inside → Stops class.Text rest
    → text_len (inside ++ rest) ≡ cond (quotes rest) (Some (length inside)) None
len_split inside rest h s =
    let n = run_is class.Text inside rest h s in
    let d : drop (run class.Text (inside ++ rest)) (inside ++ rest) ≡ rest =
    ap (λ (k : ℕ). drop k (inside ++ rest)) n ∙ drop-append_seam inside rest in
    ap (λ (xs : List ℕ). cond (quotes xs) (Some (run class.Text (inside ++ rest))) None) d
    ∙ ap (λ (k : ℕ). cond (quotes rest) (Some k) None) n

-- a text that is closed
pub len_closed : (inside rest : List ℕ) → AllIn class.Text inside → text_len (inside ++ (34 ∷ rest)) ≡ Some (length inside)
len_closed inside rest h = len_split inside (34 ∷ rest) h refl

len_open : (inside rest : List ℕ) → AllIn class.Text inside → ((rest ≡ []) ⊎ ((after : List ℕ) × (rest ≡ 10 ∷ after)))
    → text_len (inside ++ rest) ≡ None
len_open inside rest h end = ⊎_elim
    (λ (e : rest ≡ []). subst (λ (xs : List ℕ). text_len (inside ++ xs) ≡ None) (sym e) (len_split inside [] h tt))
    (λ (k : (after : List ℕ) × (rest ≡ 10 ∷ after)). subst (λ (xs : List ℕ). text_len (inside ++ xs) ≡ None) (sym k.1)
    (len_split inside (10 ∷ k.0) h refl))
    end

stops_end : (inside rest : List ℕ) → ((rest ≡ []) ⊎ ((after : List ℕ) × (rest ≡ 10 ∷ after))) → Stops class.Text rest
stops_end inside rest end = ⊎_elim
    (λ (e : rest ≡ []). subst (Stops class.Text) (sym e) tt)
    (λ (k : (after : List ℕ) × (rest ≡ 10 ∷ after)). subst (Stops class.Text) (sym k.1) refl)
    end

pub quoted_again : (bytes behind inside : List ℕ) → IsQuoted bytes inside → bytes ++ behind ≡ 34 ∷ (inside ++ (34 ∷ behind))
quoted_again bytes behind inside h =
    ap (λ (xs : List ℕ). xs ++ behind) h.0 ∙ ap (λ (xs : List ℕ). 34 ∷ xs) (append_assoc inside (34 ∷ []) behind)

pub quoted_length : (bytes inside : List ℕ) → IsQuoted bytes inside → 2 + length inside ≡ length bytes
quoted_length bytes inside h = omega (arith, ap (λ (xs : List ℕ). length xs) h.0, length-append inside (34 ∷ []))

taken_text : (bytes behind inside : List ℕ) → IsQuoted bytes inside
    → taken_at (bytes ++ behind) ≡ token_of (length bytes) (token.Text inside)
taken_text bytes behind inside h =
    ap taken_at (quoted_again bytes behind inside h) ∙ from_quote (inside ++ (34 ∷ behind)) ∙ text_step (inside ++ (34 ∷ behind))
    ∙ ap (text_to (inside ++ (34 ∷ behind))) (len_closed inside behind h.1)
    ∙ ap (λ (xs : List ℕ). token_of (2 + length inside) (token.Text xs)) (take-append_seam inside (34 ∷ behind))
    ∙ ap (λ (n : ℕ). token_of n (token.Text inside)) (quoted_length bytes inside h)

taken_open : (bytes behind : List ℕ) → IsOpenText bytes behind → taken_at (bytes ++ behind) ≡ broken (length bytes) rule.UnclosedText
taken_open bytes behind h =
    let n = run_is class.Text h.0 behind h.2 (stops_end h.0 behind h.3) in
    let l : 1 + run class.Text (h.0 ++ behind) ≡ length bytes = omega (arith, n, ap (λ (xs : List ℕ). length xs) h.1) in
    ap (λ (xs : List ℕ). taken_at (xs ++ behind)) h.1 ∙ from_quote (h.0 ++ behind) ∙ text_step (h.0 ++ behind)
    ∙ ap (text_to (h.0 ++ behind)) (len_open h.0 behind h.2 h.3) ∙ ap (λ (k : ℕ). broken k rule.UnclosedText) l

quoted_longest : (inside behind : List ℕ) → AllIn class.Text inside → IsLongest Quoted (34 ∷ (inside ++ (34 ∷ []))) behind
quoted_longest inside behind h = longest_of Quoted (34 ∷ (inside ++ (34 ∷ []))) behind (inside, (refl, h))
    (λ more rest e k.
    let whole : inside ++ (34 ∷ more) ≡ k.0 ++ (34 ∷ []) = sym (append_assoc inside (34 ∷ []) more) ∙ ap (drop 1) k.1.0 in
    let same = one_split class.Text inside (34 ∷ more) k.0 (34 ∷ []) whole h refl k.1.1 refl in
    ap (drop 1) same.1)

-- ---- what stands, the code finds

sign_step : (text : List ℕ) → mark_piece text ≡ mark_or_bad (mark_at text)
unfolding mark_piece
sign_step text = refl

as_form : (f g : Form) (bytes behind : List ℕ) → IsLongest f bytes behind → HasForm g bytes → IsLongest g bytes behind
as_form f g bytes behind h k = subst (λ (x : Form). IsLongest x bytes behind) (form_same f g bytes h.has k) h

word_is : (bytes behind : List ℕ) (f : Form) (t : Token) → IsLongest f bytes behind → IsWord bytes → word_token bytes ≡ t
    → taken_at (bytes ++ behind) ≡ token_of (length bytes) t
word_is bytes behind f t h w e =
    taken_word bytes behind w ∙ word_piece bytes behind w (word_stops bytes behind (as_form f Word bytes behind h w))
    ∙ ap (token_of (length bytes)) e

token_is : (t : Token) (f : Form) (bytes behind : List ℕ) → IsLongest f bytes behind → Spells bytes t
    → taken_at (bytes ++ behind) ≡ token_of (length bytes) t
token_is (token.Name name) f bytes behind h s =
    word_is bytes behind f (token.Name name) h (spells_form (token.Name name) bytes s) (ap word_token s.0 ∙ name_token name s.1)
token_is (token.Keyword k) f bytes behind h s =
    word_is bytes behind f (token.Keyword k) h (spells_form (token.Keyword k) bytes s) (ap word_token s ∙ keyword_token k)
token_is (token.Reserved r) f bytes behind h s =
    word_is bytes behind f (token.Reserved r) h (spells_form (token.Reserved r) bytes s) (ap word_token s ∙ reserved_token r)
token_is (token.SystemTask t) f bytes behind h s =
    let n = spells_form (token.SystemTask t) bytes s in
    taken_name bytes behind n ∙ task_piece bytes behind n (name_stops bytes behind (as_form f SystemName bytes behind h n))
    ∙ ap (λ (xs : List ℕ). task_or_bad (length bytes) (task_of xs)) s ∙ ap (task_or_bad (length bytes)) (task_found t)
token_is (token.Number ds) f bytes behind h s =
    let n = spells_form (token.Number ds) bytes s in
    taken_number bytes behind n ∙ number_token bytes behind ds (as_form f Number bytes behind h n) s
token_is (token.Text inside) f bytes behind h s = taken_text bytes behind inside s
token_is (token.Mark m) f bytes behind h s =
    taken_sign bytes behind m s ∙ sign_step (bytes ++ behind)
    ∙ ap mark_or_bad (sign_is bytes behind m (as_form f Sign bytes behind h (m, s)) s)
    ∙ ap (λ (xs : List ℕ). token_of (length xs) (token.Mark m)) (sym s)

name_bad : (bytes behind : List ℕ) → IsNoToken SystemName bytes behind → taken_at (bytes ++ behind) ≡ broken (length bytes) rule.BadByte
name_bad bytes behind h =
    taken_name bytes behind h.0.has ∙ task_piece bytes behind h.0.has (name_stops bytes behind h.0) ∙ go (task_of bytes) refl
  where
    go : (o : Option SystemTask) → task_of bytes ≡ o → task_or_bad (length bytes) (task_of bytes) ≡ broken (length bytes) rule.BadByte
    go None e = ap (task_or_bad (length bytes)) e
    go (Some t) e = absurd (h.1 (token.SystemTask t) (task_is bytes t e))

not_true : (b : Bool) → (b ≡ true → ⊥) → b ≡ false
not_true true h = absurd (h refl)
not_true false h = refl

stray_bad : (byte : ℕ) (behind : List ℕ) → is_separator byte ≡ false → (byte ≡ 34 → ⊥) → (byte ≡ 96 → ⊥)
    → ((form : Form) (front rest : List ℕ) → byte ∷ behind ≡ front ++ rest → HasForm form front → ⊥)
    → taken_at (byte ∷ behind) ≡ broken 1 rule.BadByte
stray_bad byte behind s q t stands =
    let digit = not_true (is_digit byte) (λ d. stands Number (byte ∷ []) behind refl (inl (d, refl))) in
    let name = not_true (is_name_start byte) (λ d. stands Word (byte ∷ []) behind refl (d, refl)) in
    let dollar = not_true (eqb byte 36) (λ d. stands SystemName (byte ∷ []) behind refl (eqb-true byte 36 d, refl)) in
    ⊎_elim
    (λ (a : eqb byte 39 ≡ true). subst (λ (x : ℕ). taken_at (x ∷ behind) ≡ broken 1 rule.BadByte) (sym (eqb-true byte 39 a))
    (apostrophe (eqb-true byte 39 a) (base_at (39 ∷ behind)) refl))
    (λ (a : eqb byte 39 ≡ false).
    cond-false (is_separator byte) _ _ s ∙ cond-false (eqb byte 34) _ _ (ne_eqb byte 34 q)
    ∙ cond-false (eqb byte 96) _ _ (ne_eqb byte 96 t)
    ∙ cond-false (is_digit byte || eqb byte 39) _ _ (or_from (is_digit byte) (eqb byte 39) digit a)
    ∙ cond-false (is_name_start byte) _ _ name
    ∙ cond-false (eqb byte 36) _ _ dollar ∙ sign_step (byte ∷ behind) ∙ unsigned (mark_at (byte ∷ behind)) refl)
    (cases_Bool (eqb byte 39))
  where
    unsigned : (o : Option Mark) → mark_at (byte ∷ behind) ≡ o → mark_or_bad (mark_at (byte ∷ behind)) ≡ broken 1 rule.BadByte
    unsigned None e = ap mark_or_bad e
    unsigned (Some m) e = let l = sign_longest (byte ∷ behind) m e in absurd (stands Sign (mark_spelling m) l.0 l.1 (m, refl))

    apostrophe : byte ≡ 39 → (o : Option Base) → base_at (39 ∷ behind) ≡ o → taken_at (39 ∷ behind) ≡ broken 1 rule.BadByte
    apostrophe a None e = from_apostrophe behind ∙ at_split [] (39 ∷ behind) refl refl ∙ ap (number_with [] (39 ∷ behind)) e
    apostrophe a (Some base) e =
        let f = base_front (39 ∷ behind) base e in
        let with : IsBased (39 ∷ f.letter ∷ []) [] [] base =
        record { letter = f.letter; is = refl; sized = inl refl; based = f.based; digits = refl } in
        absurd (stands Number (39 ∷ f.letter ∷ []) f.rest (ap (λ (x : ℕ). x ∷ behind) a ∙ f.is) (inr ([], [], base, with)))

pub taken_is : (c : Content) (bytes behind : List ℕ)
    → ((d : Directive) → TakenStands (content.Directive d) bytes behind
    → taken_at (bytes ++ behind) ≡ piece (length bytes) (content.Directive d))
    → TakenStands c bytes behind → taken_at (bytes ++ behind) ≡ piece (length bytes) c
taken_is content.Gap bytes behind directs h =
    ap (λ (xs : List ℕ). taken_at (xs ++ behind)) h.1 ∙ cond-true (is_separator h.0) _ _ h.2
    ∙ ap (λ (xs : List ℕ). gap (length xs)) (sym h.1)
taken_is (content.Token t) bytes behind directs h = token_is t h.0 bytes behind h.1 h.2
taken_is (content.Directive d) bytes behind directs h = directs d h
taken_is (content.Broken rule.BadByte) bytes behind directs h = ⊎_elim
    (λ (k : IsStray bytes behind). ap (λ (xs : List ℕ). taken_at (xs ++ behind)) k.is
    ∙ stray_bad k.byte behind k.separates k.quotes k.directs k.spells
    ∙ ap (λ (xs : List ℕ). broken (length xs) rule.BadByte) (sym k.is))
    (λ (k : IsNoToken SystemName bytes behind). name_bad bytes behind k)
    h
taken_is (content.Broken rule.BadNumber) bytes behind directs h = taken_number bytes behind h.0.has ∙ number_bad bytes behind h.0 h.1
taken_is (content.Broken rule.UnclosedText) bytes behind directs h = taken_open bytes behind h
taken_is (content.Broken rule.Directive) bytes behind directs h = absurd h

-- ---- what the code finds, stands

stands_text : (bs : List ℕ) → Standing (34 ∷ bs) (text_at bs)
stands_text bs =
    let s = split class.Text bs in
    let l : text_len bs ≡ cond (quotes s.rest) (Some (length s.front)) None = ap text_len s.is ∙ len_split s.front s.rest s.all s.stops in
    ⊎_elim
    (λ (t : quotes s.rest ≡ true). closed s.front (drop 1 s.rest) s.all (s.is
    ∙ ap (λ (xs : List ℕ). s.front ++ xs) (begins_of s.rest (codes "\"") t)))
    (λ (t : quotes s.rest ≡ false). opened s.front s.rest s.all s.stops s.is t (l
    ∙ cond-false (quotes s.rest) (Some (length s.front)) None t))
    (cases_Bool (quotes s.rest))
  where
    closed : (inside behind : List ℕ) → AllIn class.Text inside → bs ≡ inside ++ (34 ∷ behind) → Standing (34 ∷ bs) (text_at bs)
    closed inside behind h e =
        let p : text_at bs ≡ token_of (2 + length inside) (token.Text inside) =
        ap text_at e ∙ text_step (inside ++ (34 ∷ behind)) ∙ ap (text_to (inside ++ (34 ∷ behind))) (len_closed inside behind h)
        ∙ ap (λ (xs : List ℕ). token_of (2 + length inside) (token.Text xs)) (take-append_seam inside (34 ∷ behind)) in
        subst (Standing (34 ∷ bs)) (sym p)
        (record {
          bytes = 34 ∷ (inside ++ (34 ∷ []));
          behind = behind;
          is = ap (λ (xs : List ℕ). 34 ∷ xs) (e ∙ sym (append_assoc inside (34 ∷ []) behind));
          size = omega (arith, length-append inside (34 ∷ []));
          stands = (Quoted, quoted_longest inside behind h, (refl, h));
        })

    line_end : (rest : List ℕ) → Stops class.Text rest → quotes rest ≡ false → (rest ≡ []) ⊎ ((after : List ℕ) × (rest ≡ 10 ∷ after))
    line_end [] s t = inl refl
    line_end (c ∷ after) s t = ⊎_elim
        (λ (e : not (eqb c 10) ≡ false). inr (after, ap (λ (x : ℕ). x ∷ after) (ten c e)))
        (λ (e : not (eqb c 34) ≡ false).
        absurd (false≢true (sym t ∙ begins_is (c ∷ after) (codes "\"") after (ap (λ (x : ℕ). x ∷ after) (quote c e)))))
        (and_cases (not (eqb c 10)) (not (eqb c 34)) s)
      where
        ten : (c : ℕ) → not (eqb c 10) ≡ false → c ≡ 10
        ten c e =
            ⊎_elim (λ (u : eqb c 10 ≡ true). eqb-true c 10 u) (λ (u : eqb c 10 ≡ false). absurd (false≢true (sym e ∙ ap not u)))
            (cases_Bool (eqb c 10))

        quote : (c : ℕ) → not (eqb c 34) ≡ false → c ≡ 34
        quote c e =
            ⊎_elim (λ (u : eqb c 34 ≡ true). eqb-true c 34 u) (λ (u : eqb c 34 ≡ false). absurd (false≢true (sym e ∙ ap not u)))
            (cases_Bool (eqb c 34))

    opened : (inside behind : List ℕ) → AllIn class.Text inside → Stops class.Text behind → bs ≡ inside ++ behind → quotes behind ≡ false
        → text_len bs ≡ None → Standing (34 ∷ bs) (text_at bs)
    opened inside behind h s e t l =
        let n : run class.Text bs ≡ length inside = ap (run class.Text) e ∙ run_is class.Text inside behind h s in
        let p : text_at bs ≡ broken (1 + length inside) rule.UnclosedText =
        text_step bs ∙ ap (text_to bs) l ∙ ap (λ (k : ℕ). broken (1 + k) rule.UnclosedText) n in
        subst (Standing (34 ∷ bs)) (sym p)
        (record {
          bytes = 34 ∷ inside;
          behind = behind;
          is = ap (λ (xs : List ℕ). 34 ∷ xs) e;
          size = omega arith;
          stands = (inside, refl, h, line_end behind s t);
        })

pub word_stands : (b : ℕ) (bs : List ℕ) → is_name_start b ≡ true → Standing (b ∷ bs) (word_at (b ∷ bs))
word_stands b bs h =
    let s = split class.Name bs in
    let w : IsWord (b ∷ s.front) = (h, s.all) in
    let e : b ∷ bs ≡ (b ∷ s.front) ++ s.rest = ap (λ (xs : List ℕ). b ∷ xs) s.is in
    let p = ap word_at e ∙ word_piece (b ∷ s.front) s.rest w s.stops in
    subst (Standing (b ∷ bs)) (sym p)
    (record {
      bytes = b ∷ s.front;
      behind = s.rest;
      is = e;
      size = refl;
      stands = (Word, word_longest (b ∷ s.front) s.rest w s.stops, word_spells (b ∷ s.front) w);
    })

some_none : {A : Type 0} (x : A) → Some x ≡ None → ⊥
some_none x e = cc

-- the number of a form
abbrev form_number : Form → ℕ
form_number Word = 0
form_number SystemName = 1
form_number Number = 2
form_number Quoted = 3
form_number Sign = 4

apart : (f g : Form) → f ≡ g → (form_number f ≡ form_number g → ⊥) → ⊥
apart f g e h = h (ap form_number e)

-- A token with another form than that of the longest front isn't spelled.
no_task : (bytes behind : List ℕ) → IsLongest SystemName bytes behind → task_of bytes ≡ None → (t : Token) → Spells bytes t → ⊥
no_task bytes behind l q (token.SystemTask t) s = some_none t (sym (ap task_of s ∙ task_found t) ∙ q)
no_task bytes behind l q (token.Name name) s =
    apart Word SystemName (form_same Word SystemName bytes (spells_form (token.Name name) bytes s) l.has) (λ n. omega (arith, n))
no_task bytes behind l q (token.Keyword k) s =
    apart Word SystemName (form_same Word SystemName bytes (spells_form (token.Keyword k) bytes s) l.has) (λ n. omega (arith, n))
no_task bytes behind l q (token.Reserved r) s =
    apart Word SystemName (form_same Word SystemName bytes (spells_form (token.Reserved r) bytes s) l.has) (λ n. omega (arith, n))
no_task bytes behind l q (token.Number ds) s =
    apart Number SystemName (form_same Number SystemName bytes (spells_form (token.Number ds) bytes s) l.has) (λ n. omega (arith, n))
no_task bytes behind l q (token.Text inside) s =
    apart Quoted SystemName (form_same Quoted SystemName bytes (spells_form (token.Text inside) bytes s) l.has) (λ n. omega (arith, n))
no_task bytes behind l q (token.Mark m) s =
    apart Sign SystemName (form_same Sign SystemName bytes (spells_form (token.Mark m) bytes s) l.has) (λ n. omega (arith, n))

name_or_bad : (text bytes behind : List ℕ) → text ≡ bytes ++ behind → IsLongest SystemName bytes behind → (o : Option SystemTask)
    → task_of bytes ≡ o → Standing text (task_or_bad (length bytes) o)
name_or_bad text bytes behind e l (Some t) q =
    record { bytes = bytes; behind = behind; is = e; size = refl; stands = (SystemName, l, task_is bytes t q) }
name_or_bad text bytes behind e l None q =
    record { bytes = bytes; behind = behind; is = e; size = refl; stands = inr (l, no_task bytes behind l q) }

name_stands : (bs : List ℕ) → Standing (36 ∷ bs) (task_at (36 ∷ bs))
name_stands bs =
    let s = split class.Name bs in
    let w : IsSystemName (36 ∷ s.front) = (refl, s.all) in
    let e : 36 ∷ bs ≡ (36 ∷ s.front) ++ s.rest = ap (λ (xs : List ℕ). 36 ∷ xs) s.is in
    let p = ap task_at e ∙ task_piece (36 ∷ s.front) s.rest w s.stops in
    let l = name_longest (36 ∷ s.front) s.rest w s.stops in
    subst (Standing (36 ∷ bs)) (sym p) (name_or_bad (36 ∷ bs) (36 ∷ s.front) s.rest e l (task_of (36 ∷ s.front)) refl)

-- ---- numbers

abbrev is_token : Content → Bool
is_token (content.Token t) = true
is_token _ = false

broken_is_none : (n m : ℕ) (t : Token) → broken n rule.BadNumber ≡ token_of m t → ⊥
broken_is_none n m t e = false≢true (ap (λ (p : Piece). is_token p.content) e)

no_number : (bytes behind : List ℕ) (n : ℕ) → IsLongest Number bytes behind → number_at (bytes ++ behind) ≡ broken n rule.BadNumber
    → (t : Token) → Spells bytes t → ⊥
no_number bytes behind n l q (token.Number ds) s =
    broken_is_none n (length bytes) (token.Number ds) (sym q ∙ number_token bytes behind ds l s)
no_number bytes behind n l q (token.Name name) s =
    apart Word Number (form_same Word Number bytes (spells_form (token.Name name) bytes s) l.has) (λ k. omega (arith, k))
no_number bytes behind n l q (token.Keyword k) s =
    apart Word Number (form_same Word Number bytes (spells_form (token.Keyword k) bytes s) l.has) (λ k. omega (arith, k))
no_number bytes behind n l q (token.Reserved r) s =
    apart Word Number (form_same Word Number bytes (spells_form (token.Reserved r) bytes s) l.has) (λ k. omega (arith, k))
no_number bytes behind n l q (token.SystemTask t) s =
    apart SystemName Number (form_same SystemName Number bytes (spells_form (token.SystemTask t) bytes s) l.has) (λ k. omega (arith, k))
no_number bytes behind n l q (token.Text inside) s =
    apart Quoted Number (form_same Quoted Number bytes (spells_form (token.Text inside) bytes s) l.has) (λ k. omega (arith, k))
no_number bytes behind n l q (token.Mark m) s =
    apart Sign Number (form_same Sign Number bytes (spells_form (token.Mark m) bytes s) l.has) (λ k. omega (arith, k))

-- a number or a broken one, where its vector is what its spelling stands for
number_or : (text bytes behind : List ℕ) (value : Option (List Digit)) → text ≡ bytes ++ behind → IsLongest Number bytes behind
    → number_at (bytes ++ behind) ≡ number_or_bad (length bytes) value
    → ((ds : List Digit) → value ≡ Some ds → NumberOf bytes ds) → Standing text (number_or_bad (length bytes) value)
number_or text bytes behind (Some ds) e l q spells =
    record { bytes = bytes; behind = behind; is = e; size = refl; stands = (Number, l, spells ds refl) }
number_or text bytes behind None e l q spells =
    record { bytes = bytes; behind = behind; is = e; size = refl; stands = (l, no_number bytes behind (length bytes) l q) }

number_stands_as : (text bytes behind : List ℕ) (value : Option (List Digit)) → text ≡ bytes ++ behind → IsLongest Number bytes behind
    → number_at (bytes ++ behind) ≡ number_or_bad (length bytes) value
    → ((ds : List Digit) → value ≡ Some ds → NumberOf bytes ds) → Standing text (number_at text)
number_stands_as text bytes behind value e l q spells =
    subst (Standing text) (sym (ap number_at e ∙ q)) (number_or text bytes behind value e l q spells)

-- digits at the front that are some begin with a digit, where the text begins with a digit or an apostrophe
front_decimal : (b : ℕ) (bs digits rest : List ℕ) → (is_digit b || eqb b 39) ≡ true → b ∷ bs ≡ digits ++ rest → AllIn class.Decimal digits
    → IsSize digits
front_decimal b bs [] rest h e all = inl refl
front_decimal b bs (d ∷ ds) rest h e all =
    let first : b ≡ d = ap (λ (xs : List ℕ). get_or xs 0 0) e in
    let parts = and_parts (is_in class.Decimal d) (list_all (is_in class.Decimal) ds) all in
    inr (
      ⊎_elim
          (λ (k : is_digit b ≡ true). subst (λ (x : ℕ). is_digit x ≡ true) first k)
          (λ (k : eqb b 39 ≡ true). let n : d ≡ 39 = sym first
          ∙ eqb-true b 39 k in absurd (false≢true (subst (λ (x : ℕ). is_in class.Decimal x ≡ true) n parts.0)))
          (or_cases (is_digit b) (eqb b 39) h),
      parts.1,
    )

with_base : (text digits rest : List ℕ) (base : Base) → text ≡ digits ++ rest → IsSize digits → BaseFront rest base
    → Standing text (number_at text)
with_base text digits rest base e size f =
    let s = split class.Written f.rest in
    let bytes = digits ++ (39 ∷ f.letter ∷ s.front) in
    let b : IsBased bytes digits s.front base = record { letter = f.letter; is = refl; sized = size; based = f.based; digits = s.all } in
    let l = based_longest bytes s.rest digits s.front base b s.stops in
    let tail : rest ≡ 39 ∷ f.letter ∷ (s.front ++ s.rest) = f.is ∙ ap (λ (xs : List ℕ). 39 ∷ f.letter ∷ xs) s.is in
    let whole : text ≡ bytes ++ s.rest =
    e ∙ ap (λ (xs : List ℕ). digits ++ xs) tail ∙ sym (append_assoc digits (39 ∷ f.letter ∷ s.front) s.rest) in
    number_stands_as text bytes s.rest (based_value digits base s.front) whole l (based_piece bytes s.rest digits s.front base b l)
    (λ ds q. inr (digits, s.front, base, b, based_of digits s.front base ds q))

without_base : (text digits rest : List ℕ) → text ≡ digits ++ rest → IsDecimal digits → Stops class.Decimal rest → base_at rest ≡ None
    → Standing text (number_at text)
without_base text digits rest e d s q =
    let l = plain_longest digits rest d s q in
    number_stands_as text digits rest (plain_value digits) e l (plain_piece digits rest d l) (λ ds v. inl (plain_of digits ds d v))

-- an apostrophe with no base behind it
apostrophe_stands : (rest : List ℕ) → base_at (39 ∷ rest) ≡ None → Standing (39 ∷ rest) (number_at (39 ∷ rest))
apostrophe_stands rest q =
    let p : number_at (39 ∷ rest) ≡ broken 1 rule.BadByte = at_split [] (39 ∷ rest) refl refl ∙ ap (number_with [] (39 ∷ rest)) q in
    subst (Standing (39 ∷ rest)) (sym p)
    (record {
      bytes = 39 ∷ [];
      behind = rest;
      is = refl;
      size = refl;
      stands =
          inl (record {
            byte = 39;
            is = refl;
            separates = refl;
            quotes = λ e. omega (arith, e);
            directs = λ e. omega (arith, e);
            spells = λ form front after e h. no_form form front after e h;
          });
    })
  where
    based : (front after : List ℕ) → 39 ∷ rest ≡ front ++ after → (size written : List ℕ) (base : Base) → IsBased front size written base
        → ⊥
    based front after e [] written base b =
        let whole : 39 ∷ rest ≡ 39 ∷ b.letter ∷ (written ++ after) = e ∙ ap (λ (xs : List ℕ). xs ++ after) b.is in
        some_none base (sym (ap base_at whole ∙ base_is b.letter (written ++ after) ∙ b.based) ∙ q)
    based front after e (d ∷ ds) written base b =
        let whole : 39 ∷ rest ≡ (d ∷ ds) ++ (39 ∷ b.letter ∷ written) ++ after = e ∙ ap (λ (xs : List ℕ). xs ++ after) b.is in
        let first : 39 ≡ d = ap (λ (xs : List ℕ). get_or xs 0 0) whole in
        let k : is_digit d ≡ true = ⊎_elim (λ (x : d ∷ ds ≡ []). absurd (not_nil d ds x)) (λ (x : IsDecimal (d ∷ ds)). x.0) b.sized in
        false≢true (subst (λ (x : ℕ). is_digit x ≡ true) (sym first) k)

    no_front : (c : ℕ) (cs after : List ℕ) → 39 ∷ rest ≡ (c ∷ cs) ++ after → IsNumber (c ∷ cs) → ⊥
    no_front c cs after e h =
        let first : 39 ≡ c = ap (λ (xs : List ℕ). get_or xs 0 0) e in
        ⊎_elim
        (λ (d : IsDecimal (c ∷ cs)). false≢true (subst (λ (x : ℕ). is_digit x ≡ true) (sym first) d.0))
        (λ (p : (size written : List ℕ) × (base : Base) × IsBased (c ∷ cs) size written base). based (c ∷ cs) after e p.0 p.1 p.2 p.3)
        h

    no_form : (form : Form) (front after : List ℕ) → 39 ∷ rest ≡ front ++ after → HasForm form front → ⊥
    no_form form [] after e h = has_some form h
    no_form form (c ∷ cs) after e h =
        let first : 39 ≡ c = ap (λ (xs : List ℕ). get_or xs 0 0) e in
        let same : Some form ≡ Some Number = sym (kind_is form c cs h) ∙ ap kind_of (sym first) in
        no_front c cs after e (subst (λ (f : Form). HasForm f (c ∷ cs)) (some_same form Number same) h)

-- a first byte of the kind of numbers is a digit or an apostrophe
number_first : (b : ℕ) → kind_of b ≡ Some Number → (is_digit b || eqb b 39) ≡ true
number_first b e = ⊎_elim
    (λ (d : (is_digit b || eqb b 39) ≡ true). d)
    (λ (d : (is_digit b || eqb b 39) ≡ false).
    absurd (other (eqb b 34) (eqb b 96) (is_name_start b) (eqb b 36)
    (ap (λ x.
    cond (eqb b 34) (Some Quoted)
    (cond (eqb b 96) None
    (cond x (Some Number) (cond (is_name_start b) (Some Word) (cond (eqb b 36) (Some SystemName) (Some Sign))))))
    (sym d) ∙ e)))
    (cases_Bool (is_digit b || eqb b 39))
  where
    unlike : (f : Form) → (form_number f ≡ 2 → ⊥) → Some f ≡ Some Number → ⊥
    unlike f h q = h (ap form_number (some_same f Number q))

    other : (w x y z : Bool) → cond w (Some Quoted) (cond x None (cond y (Some Word) (cond z (Some SystemName) (Some Sign))))
        ≡ Some Number → ⊥
    other true x y z q = unlike Quoted (λ n. omega (arith, n)) q
    other false true y z q = some_none Number (sym q)
    other false false true z q = unlike Word (λ n. omega (arith, n)) q
    other false false false true q = unlike SystemName (λ n. omega (arith, n)) q
    other false false false false q = unlike Sign (λ n. omega (arith, n)) q

number_stands : (b : ℕ) (bs : List ℕ) → (is_digit b || eqb b 39) ≡ true → Standing (b ∷ bs) (number_at (b ∷ bs))
number_stands b bs h =
    let s = split class.Decimal (b ∷ bs) in
    go s.front s.rest s.is s.all s.stops (front_decimal b bs s.front s.rest h s.is s.all) (base_at s.rest) refl
  where
    bare : (rest : List ℕ) → b ∷ bs ≡ rest → Stops class.Decimal rest → base_at rest ≡ None → Standing (b ∷ bs) (number_at (b ∷ bs))
    bare rest e stops q = ⊎_elim
        (λ (k : is_digit b ≡ true).
        absurd (false≢true (sym (subst (Stops class.Decimal) (sym e) stops) ∙ or_left (is_digit b) (eqb b 95) k)))
        (λ (k : eqb b 39 ≡ true).
        let n = eqb-true b 39 k in
        subst (λ (x : ℕ). Standing (x ∷ bs) (number_at (x ∷ bs))) (sym n)
        (apostrophe_stands bs (ap (λ (x : ℕ). base_at (x ∷ bs)) (sym n) ∙ ap base_at e ∙ q)))
        (or_cases (is_digit b) (eqb b 39) h)

    go : (digits rest : List ℕ) → b ∷ bs ≡ digits ++ rest → AllIn class.Decimal digits → Stops class.Decimal rest → IsSize digits
        → (o : Option Base) → base_at rest ≡ o → Standing (b ∷ bs) (number_at (b ∷ bs))
    go digits rest e all stops size (Some base) q = with_base (b ∷ bs) digits rest base e size (base_front rest base q)
    go digits rest e all stops size None q = ⊎_elim
        (λ (k : digits ≡ []). bare rest (e ∙ ap (λ (xs : List ℕ). xs ++ rest) k) stops q)
        (λ (k : IsDecimal digits). without_base (b ∷ bs) digits rest e k stops q)
        size

sign_stands : (b : ℕ) (bs : List ℕ) → is_separator b ≡ false → (b ≡ 34 → ⊥) → (b ≡ 96 → ⊥) → (is_digit b || eqb b 39) ≡ false
    → is_name_start b ≡ false → (b ≡ 36 → ⊥) → Standing (b ∷ bs) (mark_piece (b ∷ bs))
sign_stands b bs s q t d n k = subst (Standing (b ∷ bs)) (sym (sign_step (b ∷ bs))) (go (mark_at (b ∷ bs)) refl)
  where
    stray : mark_at (b ∷ bs) ≡ None → (form : Form) (front after : List ℕ) → b ∷ bs ≡ front ++ after → HasForm form front → ⊥
    stray e form [] after w h = has_some form h
    stray e Word (c ∷ cs) after w h = false≢true (sym n ∙ ap is_name_start (ap (λ (xs : List ℕ). get_or xs 0 0) w) ∙ h.0)
    stray e SystemName (c ∷ cs) after w h = k (ap (λ (xs : List ℕ). get_or xs 0 0) w ∙ h.0)
    stray e Number (c ∷ cs) after w h =
        let first : b ≡ c = ap (λ (xs : List ℕ). get_or xs 0 0) w in
        false≢true (sym d ∙ number_first b (subst (λ (x : ℕ). kind_of x ≡ Some Number) (sym first) (kind_is Number c cs h)))
    stray e Quoted (c ∷ cs) after w h = q (ap (λ (xs : List ℕ). get_or xs 0 0) w ∙ ap (λ (xs : List ℕ). get_or xs 0 0) h.1.0)
    stray e Sign (c ∷ cs) after w h = no_sign (b ∷ bs) (c ∷ cs) after e w h

    go : (o : Option Mark) → mark_at (b ∷ bs) ≡ o → Standing (b ∷ bs) (mark_or_bad o)
    go (Some m) e =
        let l = sign_longest (b ∷ bs) m e in
        record { bytes = mark_spelling m; behind = l.0; is = l.1; size = refl; stands = (Sign, l.2, refl) }
    go None e =
        record {
          bytes = b ∷ [];
          behind = bs;
          is = refl;
          size = refl;
          stands = inl (record { byte = b; is = refl; separates = s; quotes = q; directs = t; spells = stray e });
        }

pub taken_stands : (b : ℕ) (bs : List ℕ) → ((after : List ℕ) → Standing (96 ∷ after) (directive_at after))
    → Standing (b ∷ bs) (taken_at (b ∷ bs))
taken_stands b bs directs =
    ⊎_elim
    (λ (s : is_separator b ≡ true). subst (Standing (b ∷ bs)) (sym (cond-true (is_separator b) (gap 1) (token_from b bs (b ∷ bs)) s))
    (record { bytes = b ∷ []; behind = bs; is = refl; size = refl; stands = (b, refl, s) }))
    (λ (s : is_separator b ≡ false). ⊎_elim
    (λ (q : eqb b 34 ≡ true). subst (λ (x : ℕ). Standing (x ∷ bs) (taken_at (x ∷ bs))) (sym (eqb-true b 34 q)) (stands_text bs))
    (λ (q : eqb b 34 ≡ false). ⊎_elim
    (λ (t : eqb b 96 ≡ true). subst (λ (x : ℕ). Standing (x ∷ bs) (taken_at (x ∷ bs))) (sym (eqb-true b 96 t)) (directs bs))
    (λ (t : eqb b 96 ≡ false). ⊎_elim
    (λ (d : (is_digit b || eqb b 39) ≡ true).
    subst (Standing (b ∷ bs))
    (sym (cond-false (is_separator b) _ _ s ∙ cond-false (eqb b 34) _ _ q ∙ cond-false (eqb b 96) _ _ t
    ∙ cond-true (is_digit b || eqb b 39) _ _ d)) (number_stands b bs d))
    (λ (d : (is_digit b || eqb b 39) ≡ false). ⊎_elim
    (λ (n : is_name_start b ≡ true). subst (Standing (b ∷ bs)) (sym (from_word b bs n)) (word_stands b bs n))
    (λ (n : is_name_start b ≡ false). ⊎_elim
    (λ (k : eqb b 36 ≡ true). subst (λ (x : ℕ). Standing (x ∷ bs) (taken_at (x ∷ bs))) (sym (eqb-true b 36 k)) (name_stands bs))
    (λ (k : eqb b 36 ≡ false).
    subst (Standing (b ∷ bs))
    (sym (cond-false (is_separator b) _ _ s ∙ cond-false (eqb b 34) _ _ q ∙ cond-false (eqb b 96) _ _ t
    ∙ cond-false (is_digit b || eqb b 39) _ _ d ∙ cond-false (is_name_start b) _ _ n ∙ cond-false (eqb b 36) _ _ k))
    (sign_stands b bs s (unequal b 34 q) (unequal b 96 t) d n (unequal b 36 k)))
    (cases_Bool (eqb b 36)))
    (cases_Bool (is_name_start b)))
    (cases_Bool (is_digit b || eqb b 39)))
    (cases_Bool (eqb b 96)))
    (cases_Bool (eqb b 34)))
    (cases_Bool (is_separator b))
  where
    unequal : (b n : ℕ) → eqb b n ≡ false → b ≡ n → ⊥
    unequal b n e q = false≢true (sym e ∙ eq-eqb b n q)

-- Directives, as they stand and as the code finds them.
use Rattle.std.proofs.Common.{◌≡◌, ℕ, zero, suc, ◌+◌, ◌*◌, ◌<◌, ◌≤◌, Bool, true, false, ◌&&◌, ◌||◌, cond, eqb, leb, is_none, List, []}
use Rattle.std.proofs.Common.{◌∷◌, ◌++◌, length, get_or, take, drop, Option, Some, None, ap, ◌∙◌, sym, refl, subst, ⊎_elim, inl, inr, ◌⊎◌}
use Rattle.std.proofs.Common.{append_assoc, append-nil, eq-eqb, ne_eqb, eqb-true, arith}
use Rattle.std.specs.Prelude.{option_map}
use Rattle.std.specs.List.{list_all}
use Rattle.std.specs.Str.{bytes_eq}
use Rattle.std.specs.Cmp.Lexicographic.{bytes_decides}
use lib.Chars.{codes}
use lib.Seq.{take-append_seam, drop-append_seam}
use Rattle.std.proofs.lemmas.Bool.{cases_Bool, or_cases, or_from, and_parts, and_from, cond-true, cond-false, false≢true}
use Rattle.std.proofs.lemmas.List.{length-append}
use Rattle.v_syntax.specs.Words.{keyword_of, reserved_of}
use Rattle.v_lex.specs.declared.bytes.ByteClass.TheVariants as class
use Rattle.v_lex.specs.declared.directive.DirectiveWord.{DirectiveWord}
use Rattle.v_lex.specs.declared.directive.DirectiveWord.TheVariants as word
use Rattle.v_lex.specs.declared.directive.Directive.{Directive}
use Rattle.v_lex.specs.declared.directive.Directive.TheVariants as directive
use Rattle.v_lex.specs.declared.directive.Content.{Content}
use Rattle.v_lex.specs.declared.directive.Content.TheVariants as content
use Rattle.v_lex.specs.declared.directive.LexRule.TheVariants as rule
use Rattle.v_lex.specs.declared.directive.Piece.{Piece}
use Rattle.v_lex.specs.Bytes.{run, is_in, is_digit, is_letter, is_name_start, is_separator}
use Rattle.v_lex.specs.DirectiveWords.{directive_of, directive_spelling, directive_words}
use Rattle.v_lex.specs.Numbers.{◌>>=◌}
use Rattle.v_lex.specs.Times.{magnitude_of, unit_of}
use Rattle.v_lex.specs.Comments.{begins, comment_at, directive_of_parts}
use Rattle.v_lex.specs.DirectiveScan.{word_behind, word_after, is_name, name_after, gap_size, is_blank, time_of, time_after, slash_after}
use Rattle.v_lex.specs.DirectiveScan.{scale_after, scale_or_broken, with_name, named_or_broken, define_or_broken, net_type_or_broken}
use Rattle.v_lex.specs.DirectiveScan.{directive_with, directive_at, is_conditional}
use Rattle.v_lex.specs.Spelling.{AllIn, IsWord, IsName}
use Rattle.v_lex.specs.Gaps.{Stops, IsSeparator, IsComment, IsOpenComment, IsGap}
use Rattle.v_lex.specs.Directives.{IsBlankLine, Ends, Feeds, Goes, Passes, NamePart, NetTypePart, TimePart, ScalePart, Parts, IsWhole}
use Rattle.v_lex.specs.Directives.{IsBare, IsUnnamed, IsDirective, IsOfConditional, BeginsConditional}
use Rattle.v_lex.specs.Row.{CommentStands}
use Rattle.v_lex.proofs.Splits.{split, run_is}
use Rattle.v_lex.proofs.FormKinds.{starts_range, between, below}
use Rattle.v_lex.proofs.WrittenNumbers.{bind_some}
use Rattle.v_lex.proofs.WordLaws.{find_test, begins_of}
use Rattle.v_lex.proofs.GapLaws.{blank_nil, blank_at_end, blank_past, blank_goes_on, blank_wrong}
use Rattle.v_lex.proofs.CommentLaws as comments
use Rattle.v_lex.proofs.TokenFronts.{Standing}

some_is : {A : Type 0} (x y : A) → Some x ≡ Some y → x ≡ y
some_is x y e = cc

none_some : {A : Type 0} (x : A) → None ≡ Some x → ⊥
none_some x e = cc

append_four : (a b c d : List ℕ) → (a ++ (b ++ c)) ++ d ≡ a ++ (b ++ (c ++ d))
append_four a b c d = append_assoc a (b ++ c) d ∙ ap (λ (xs : List ℕ). a ++ xs) (append_assoc b c d)

append_five : (a b c d e : List ℕ) → (a ++ (b ++ (c ++ d))) ++ e ≡ a ++ (b ++ (c ++ (d ++ e)))
append_five a b c d e = append_assoc a (b ++ (c ++ d)) e ∙ ap (λ (xs : List ℕ). a ++ xs) (append_four b c d e)

length_four : (a b c d : List ℕ) → length (a ++ (b ++ (c ++ d))) ≡ length a + length b + length c + length d
length_four a b c d = omega (arith, length-append a (b ++ (c ++ d)), length-append b (c ++ d), length-append c d)

-- ---- bytes of names and separators

no_separator : (b : ℕ) → 32 < b → is_in class.Separator b ≡ false
no_separator b h =
    let other : (n : ℕ) → n < 33 → eqb b n ≡ false = λ n k. ne_eqb b n (λ e. omega (arith, h, k, e)) in
    or_from (eqb b 32 || eqb b 9 || eqb b 10 || eqb b 13) (eqb b 12)
    (or_from (eqb b 32 || eqb b 9 || eqb b 10) (eqb b 13)
    (or_from (eqb b 32 || eqb b 9) (eqb b 10) (or_from (eqb b 32) (eqb b 9) (other 32 (omega arith)) (other 9 (omega arith)))
    (other 10 (omega arith)))
    (other 13 (omega arith)))
    (other 12 (omega arith))

separator_range : (b : ℕ) → is_in class.Separator b ≡ true → b < 33
separator_range b h =
    ⊎_elim
    (λ (k : (eqb b 32 || eqb b 9 || eqb b 10 || eqb b 13) ≡ true). ⊎_elim
    (λ (l : (eqb b 32 || eqb b 9 || eqb b 10) ≡ true). ⊎_elim
    (λ (m : (eqb b 32 || eqb b 9) ≡ true). ⊎_elim
    (λ (n : eqb b 32 ≡ true). omega (arith, eqb-true b 32 n))
    (λ (n : eqb b 9 ≡ true). omega (arith, eqb-true b 9 n))
    (or_cases (eqb b 32) (eqb b 9) m))
    (λ (m : eqb b 10 ≡ true). omega (arith, eqb-true b 10 m))
    (or_cases (eqb b 32 || eqb b 9) (eqb b 10) l))
    (λ (l : eqb b 13 ≡ true). omega (arith, eqb-true b 13 l))
    (or_cases (eqb b 32 || eqb b 9 || eqb b 10) (eqb b 13) k))
    (λ (k : eqb b 12 ≡ true). omega (arith, eqb-true b 12 k))
    (or_cases (eqb b 32 || eqb b 9 || eqb b 10 || eqb b 13) (eqb b 12) h)

letter_high : (b : ℕ) → is_letter b ≡ true → 57 < b
letter_high b l = ⊎_elim
    (λ (u : (leb 65 b && leb b 90) ≡ true). let r = between 65 90 b u in omega (arith, r.0))
    (λ (u : (leb 97 b && leb b 122) ≡ true). let r = between 97 122 b u in omega (arith, r.0))
    (or_cases (leb 65 b && leb b 90) (leb 97 b && leb b 122) l)

name_high : (b : ℕ) → is_in class.Name b ≡ true → 35 < b
name_high b h = ⊎_elim
    (λ (k : (is_letter b || is_digit b || eqb b 95) ≡ true). ⊎_elim
    (λ (l : (is_letter b || is_digit b) ≡ true). ⊎_elim
    (λ (m : is_letter b ≡ true). omega (arith, letter_high b m))
    (λ (m : is_digit b ≡ true). let r = between 48 57 b m in omega (arith, r.0))
    (or_cases (is_letter b) (is_digit b) l))
    (λ (l : eqb b 95 ≡ true). omega (arith, eqb-true b 95 l))
    (or_cases (is_letter b || is_digit b) (eqb b 95) k))
    (λ (k : eqb b 36 ≡ true). omega (arith, eqb-true b 36 k))
    (or_cases (is_letter b || is_digit b || eqb b 95) (eqb b 36) h)

-- a separator is no byte of a name, and no digit
separates_name : (b : ℕ) → is_in class.Separator b ≡ true → is_in class.Name b ≡ false
separates_name b h = ⊎_elim
    (λ (k : is_in class.Name b ≡ true). absurd (let r = separator_range b h in let q = name_high b k in omega (arith, r, q)))
    (λ (k : is_in class.Name b ≡ false). k)
    (cases_Bool (is_in class.Name b))

separates_digit : (b : ℕ) → is_in class.Separator b ≡ true → is_in class.Digit b ≡ false
separates_digit b h = let r = separator_range b h in below 48 57 b (omega (arith, r))

-- where separators stand, or a rest that stops, a run of names stops
gap_stops_name : (gap rest : List ℕ) → AllIn class.Separator gap → Stops class.Name rest → Stops class.Name (gap ++ rest)
gap_stops_name [] rest h s = s
gap_stops_name (g ∷ gap) rest h s = separates_name g (and_parts (is_in class.Separator g) (list_all (is_in class.Separator) gap) h).0

gap_stops_digit : (gap rest : List ℕ) → AllIn class.Separator gap → Stops class.Digit rest → Stops class.Digit (gap ++ rest)
gap_stops_digit [] rest h s = s
gap_stops_digit (g ∷ gap) rest h s = separates_digit g (and_parts (is_in class.Separator g) (list_all (is_in class.Separator) gap) h).0

-- ---- a word behind separators

after_step : (text : List ℕ) → word_after text ≡ word_behind (run class.Separator text) (drop (run class.Separator text) text)
unfolding word_after
after_step text = refl

after_is : (gap name rest : List ℕ) → AllIn class.Separator gap → Stops class.Separator (name ++ rest) → AllIn class.Name name
    → Stops class.Name rest → word_after (gap ++ (name ++ rest)) ≡ (length gap + length name, name)
after_is gap name rest g s n t =
    let k = run_is class.Separator gap (name ++ rest) g s in
    let m = run_is class.Name name rest n t in
    after_step (gap ++ (name ++ rest))
    ∙ ap (λ (i : ℕ). word_behind i (drop i (gap ++ (name ++ rest)))) k
    ∙ ap (word_behind (length gap)) (drop-append_seam gap (name ++ rest))
    ∙ ap (λ (i : ℕ). (length gap + i, take i (name ++ rest))) m
    ∙ ap (λ (xs : List ℕ). (length gap + length name, xs)) (take-append_seam name rest)

record WordView (text : List ℕ) : Type 0 where
  gap : List ℕ
  name : List ℕ
  rest : List ℕ
  is : text ≡ gap ++ (name ++ rest)
  separated : AllIn class.Separator gap
  named : AllIn class.Name name
  ends : Stops class.Name rest
  found : word_after text ≡ (length gap + length name, name)

view_word : (text : List ℕ) → WordView text
view_word text =
    let s = split class.Separator text in
    let n = split class.Name s.rest in
    let e : text ≡ s.front ++ (n.front ++ n.rest) = s.is ∙ ap (λ (xs : List ℕ). s.front ++ xs) n.is in
    record {
      gap = s.front;
      name = n.front;
      rest = n.rest;
      is = e;
      separated = s.all;
      named = n.all;
      ends = n.stops;
      found = ap word_after e ∙ after_is s.front n.front n.rest s.all (subst (Stops class.Separator) n.is s.stops) n.all n.stops;
    }

-- ---- names

is_none_of : {A : Type 0} (o : Option A) → is_none o ≡ true → o ≡ None
is_none_of None e = refl
is_none_of (Some x) e = absurd (false≢true e)

name_true : (name : List ℕ) → IsName name → is_name name ≡ true
name_true [] h = absurd h.0
name_true (b ∷ bs) h =
    and_from (is_name_start b && is_none (keyword_of (b ∷ bs))) (is_none (reserved_of (b ∷ bs)))
    (and_from (is_name_start b) (is_none (keyword_of (b ∷ bs))) h.0.0 (ap is_none h.1)) (ap is_none h.2)

name_of : (name : List ℕ) → AllIn class.Name name → is_name name ≡ true → IsName name
name_of [] a e = absurd (false≢true e)
name_of (b ∷ bs) a e =
    let p = and_parts (is_name_start b && is_none (keyword_of (b ∷ bs))) (is_none (reserved_of (b ∷ bs))) e in
    let q = and_parts (is_name_start b) (is_none (keyword_of (b ∷ bs))) p.0 in (
      (q.0, (and_parts (is_in class.Name b) (list_all (is_in class.Name) bs) a).1),
      is_none_of (keyword_of (b ∷ bs)) q.1,
      is_none_of (reserved_of (b ∷ bs)) p.1,
    )

start_name : (b : ℕ) → is_name_start b ≡ true → is_in class.Name b ≡ true
start_name b h = ⊎_elim
    (λ (l : is_letter b ≡ true). ap (λ (x : Bool). ((x || is_digit b) || eqb b 95) || eqb b 36) l)
    (λ (l : eqb b 95 ≡ true). subst (λ (x : ℕ). is_in class.Name x ≡ true) (sym (eqb-true b 95 l)) refl)
    (or_cases (is_letter b) (eqb b 95) h)

name_all : (name : List ℕ) → IsWord name → AllIn class.Name name
name_all [] h = absurd h
name_all (b ∷ bs) h = and_from (is_in class.Name b) (list_all (is_in class.Name) bs) (start_name b h.0) h.1

name_starts : (name rest : List ℕ) → IsWord name → Stops class.Separator (name ++ rest)
name_starts [] rest h = absurd h
name_starts (b ∷ bs) rest h = let r = starts_range b h.0 in no_separator b (omega (arith, r.0))

name_step : (text : List ℕ) → name_after text ≡ cond (is_name (word_after text).1) (Some (word_after text)) None
unfolding name_after
name_step text = refl

-- what stands, the code finds
name_is : (name parts behind : List ℕ) → NamePart name parts behind → name_after (parts ++ behind) ≡ Some (length parts, name)
name_is name parts behind h =
    let gap = h.0 in
    let e : parts ++ behind ≡ gap ++ (name ++ behind) = ap (λ (xs : List ℕ). xs ++ behind) h.1 ∙ append_assoc gap name behind in
    let w = after_is gap name behind h.2 (name_starts name behind h.3.0) (name_all name h.3.0) h.4 in
    let n : length gap + length name ≡ length parts = omega (arith, length-append gap name, ap (λ (xs : List ℕ). length xs) h.1) in
    ap name_after e ∙ name_step (gap ++ (name ++ behind)) ∙ ap (λ (a : ℕ × List ℕ). cond (is_name a.1) (Some a) None) w
    ∙ cond-true (is_name name) _ _ (name_true name h.3) ∙ ap (λ (k : ℕ). Some (k, name)) n

record NameView (text : List ℕ) (a : ℕ × List ℕ) : Type 0 where
  parts : List ℕ
  behind : List ℕ
  is : text ≡ parts ++ behind
  has : NamePart a.1 parts behind
  size : a.0 ≡ length parts

-- what the code finds, stands
name_view : (text : List ℕ) (a : ℕ × List ℕ) → name_after text ≡ Some a → NameView text a
name_view text a e =
    let v = view_word text in
    ⊎_elim
    (λ (t : is_name (word_after text).1 ≡ true).
    let w : (length v.gap + length v.name, v.name) ≡ a =
    sym v.found ∙ some_is (word_after text) a (sym (name_step text ∙ cond-true _ _ _ t) ∙ e) in
    let n : IsName v.name = name_of v.name v.named (sym (ap (λ (x : ℕ × List ℕ). is_name x.1) v.found) ∙ t) in
    subst (NameView text) w
    (record {
      parts = v.gap ++ v.name;
      behind = v.rest;
      is = v.is ∙ sym (append_assoc v.gap v.name v.rest);
      has = (v.gap, refl, v.separated, n, v.ends);
      size = sym (length-append v.gap v.name);
    }))
    (λ (t : is_name (word_after text).1 ≡ false). absurd (none_some a (sym (name_step text ∙ cond-false _ _ _ t) ∙ e)))
    (cases_Bool (is_name (word_after text).1))

-- ---- a line without a token

gap_step : (b : ℕ) (bs : List ℕ) → gap_size (b ∷ bs) ≡ cond (is_separator b) (Some 1) (option_map (λ p. p.size) (comment_at (b ∷ bs)))
unfolding gap_size
gap_step b bs = refl

gap_nil : gap_size [] ≡ None
unfolding gap_size
gap_nil = refl

gap_comment : (c : Content) (bytes behind : List ℕ) → CommentStands c bytes behind → (rest : List ℕ) × (bytes ++ behind ≡ 47 ∷ rest)
    → gap_size (bytes ++ behind) ≡ Some (length bytes)
gap_comment c bytes behind h f =
    ap gap_size f.1 ∙ gap_step 47 f.0
    ∙ ap (option_map (λ (p : Piece). p.size)) (sym (ap comment_at f.1) ∙ comments.comment_is c bytes behind h)

gap_is : (gap rest : List ℕ) → IsGap gap rest → gap_size (gap ++ rest) ≡ Some (length gap)
gap_is gap rest h = ⊎_elim
    (λ (k : IsSeparator gap). ap (λ (xs : List ℕ). gap_size (xs ++ rest)) k.1 ∙ gap_step k.0 rest ∙ cond-true (is_separator k.0) _ _ k.2
    ∙ ap (λ (xs : List ℕ). Some (length xs)) (sym k.1))
    (λ (k : IsComment gap rest ⊎ IsOpenComment gap rest). ⊎_elim
    (λ (l : IsComment gap rest). gap_comment content.Gap gap rest l (comments.comment_first content.Gap gap rest l))
    (λ (l : IsOpenComment gap rest). gap_comment (content.Broken rule.UnclosedText) gap rest l
    (comments.comment_first (content.Broken rule.UnclosedText) gap rest l))
    k)
    h

record GapView (text : List ℕ) (n : ℕ) : Type 0 where
  gap : List ℕ
  rest : List ℕ
  is : text ≡ gap ++ rest
  has : IsGap gap rest
  size : n ≡ length gap
  some : 1 ≤ length gap

comment_gap : (c : Content) (bytes behind : List ℕ) → CommentStands c bytes behind → IsGap bytes behind
comment_gap content.Gap bytes behind h = inr (inl h)
comment_gap (content.Broken rule.UnclosedText) bytes behind h = inr (inr h)
comment_gap (content.Broken rule.BadByte) bytes behind h = absurd h
comment_gap (content.Broken rule.BadNumber) bytes behind h = absurd h
comment_gap (content.Broken rule.Directive) bytes behind h = absurd h
comment_gap (content.Token t) bytes behind h = absurd h
comment_gap (content.Directive d) bytes behind h = absurd h

gap_view : (text : List ℕ) (n : ℕ) → gap_size text ≡ Some n → GapView text n
gap_view [] n e = absurd (none_some n (sym gap_nil ∙ e))
gap_view (b ∷ bs) n e = ⊎_elim
    (λ (s : is_separator b ≡ true).
    let k : 1 ≡ n = some_is 1 n (sym (gap_step b bs ∙ cond-true (is_separator b) _ _ s) ∙ e) in
    record { gap = b ∷ []; rest = bs; is = refl; has = inl (b, refl, s); size = sym k; some = omega arith })
    (λ (s : is_separator b ≡ false). ⊎_elim
    (λ (f : comments.Found (b ∷ bs) × _). commented f.0 (sym (gap_step b bs ∙ cond-false (is_separator b) _ _ s) ∙ e))
    (λ (k : (comment_at (b ∷ bs) ≡ None) × _).
    absurd (none_some n (sym (gap_step b bs ∙ cond-false (is_separator b) _ _ s ∙ ap (option_map (λ (p : Piece). p.size)) k.0) ∙ e)))
    (comments.found_or_none (b ∷ bs)))
    (cases_Bool (is_separator b))
  where
    commented : comments.Found (b ∷ bs) → option_map (λ (p : Piece). p.size) (comment_at (b ∷ bs)) ≡ Some n → GapView (b ∷ bs) n
    commented f q =
        let s = f.standing in
        let k : f.piece.size ≡ n = some_is f.piece.size n (sym (ap (option_map (λ (p : Piece). p.size)) f.is) ∙ q) in
        record {
          gap = s.bytes;
          rest = s.behind;
          is = s.is;
          has = comment_gap f.piece.content s.bytes s.behind s.stands;
          size = sym k ∙ s.size;
          some = comments.comment_some f.piece.content s.bytes s.behind s.stands;
        }

gap_some : (gap rest : List ℕ) → IsGap gap rest → 1 ≤ length gap
gap_some gap rest h = ⊎_elim
    (λ (k : IsSeparator gap). omega (arith, ap (λ (xs : List ℕ). length xs) k.1))
    (λ (k : IsComment gap rest ⊎ IsOpenComment gap rest). ⊎_elim
    (λ (l : IsComment gap rest). comments.comment_some content.Gap gap rest l)
    (λ (l : IsOpenComment gap rest). comments.comment_some (content.Broken rule.UnclosedText) gap rest l)
    k)
    h

pred_of : (n k : ℕ) → k ≤ n → 1 ≤ k → (m : ℕ) × (n ≡ suc m)
pred_of zero k h i = absurd (omega (arith, h, i))
pred_of (suc n) k h i = (n, refl)

line_run : (gap rest : List ℕ) → AllIn class.Line gap → run class.Line (take (length gap) (gap ++ rest)) ≡ length gap
line_run gap rest h = ap (run class.Line) (take-append_seam gap rest ∙ sym (append-nil gap)) ∙ run_is class.Line gap [] h tt

line_all : (gap rest : List ℕ) → run class.Line (take (length gap) (gap ++ rest)) ≡ length gap → AllIn class.Line gap
line_all gap rest e =
    let s = split class.Line gap in
    let k : length s.front ≡ length gap =
    sym (run_is class.Line s.front s.rest s.all s.stops) ∙ ap (run class.Line) (sym s.is ∙ sym (take-append_seam gap rest)) ∙ e in
    let l = ap (λ (xs : List ℕ). length xs) s.is in
    let z : s.rest ≡ [] = none_left s.rest (omega (arith, k, l, length-append s.front s.rest)) in
    subst (AllIn class.Line) (sym (s.is ∙ ap (λ (xs : List ℕ). s.front ++ xs) z ∙ append-nil s.front)) s.all
  where
    none_left : (xs : List ℕ) → length xs ≡ 0 → xs ≡ []
    none_left [] h = refl
    none_left (x ∷ xs) h = absurd (omega (arith, h))

blank_is : (text : List ℕ) → IsBlankLine text → (n : ℕ) → length text ≤ n → is_blank n text ≡ true
blank_is text Ends n h = blank_nil n
blank_is text (Feeds rest) n h =
    let p = pred_of n (suc (length rest)) h (omega arith) in blank_at_end n p.0 (10 ∷ rest) p.1 (omega arith) refl
blank_is text (Goes gap rest g l k) n h =
    let some = gap_some gap rest g in
    let len = length-append gap rest in
    let p = pred_of n (length (gap ++ rest)) h (omega (arith, some, len)) in
    ⊎_elim
    (λ (t : eqb (get_or (gap ++ rest) 0 0) 10 ≡ true). blank_at_end n p.0 (gap ++ rest) p.1 (omega (arith, some, len)) (eqb-true _ 10 t))
    (λ (t : eqb (get_or (gap ++ rest) 0 0) 10 ≡ false).
    blank_goes_on n p.0 (length gap) (gap ++ rest) p.1 (omega (arith, some, len)) (λ q. false≢true (sym t ∙ eq-eqb _ 10 q))
    (gap_is gap rest g) (line_run gap rest l)
    ∙ ap (is_blank p.0) (drop-append_seam gap rest) ∙ blank_is rest k p.0 (omega (arith, some, len, h, p.1)))
    (cases_Bool (eqb (get_or (gap ++ rest) 0 0) 10))
blank_is text (Passes gap rest g l) n h =
    let some = gap_some gap rest g in
    let len = length-append gap rest in
    let p = pred_of n (length (gap ++ rest)) h (omega (arith, some, len)) in
    ⊎_elim
    (λ (t : eqb (get_or (gap ++ rest) 0 0) 10 ≡ true). blank_at_end n p.0 (gap ++ rest) p.1 (omega (arith, some, len)) (eqb-true _ 10 t))
    (λ (t : eqb (get_or (gap ++ rest) 0 0) 10 ≡ false).
    blank_past n p.0 (length gap) (gap ++ rest) p.1 (omega (arith, some, len)) (λ q. false≢true (sym t ∙ eq-eqb _ 10 q))
    (gap_is gap rest g) (λ q. l (line_all gap rest q)))
    (cases_Bool (eqb (get_or (gap ++ rest) 0 0) 10))

first_ten : (text : List ℕ) → 1 ≤ length text → get_or text 0 0 ≡ 10 → IsBlankLine text
first_ten [] h e = absurd (omega (arith, h))
first_ten (b ∷ bs) h e = subst (λ (x : ℕ). IsBlankLine (x ∷ bs)) (sym e) (Feeds bs)

blank_of : (n : ℕ) (text : List ℕ) → length text ≤ n → is_blank n text ≡ true → IsBlankLine text
blank_of n [] h e = Ends
blank_of zero (b ∷ bs) h e = absurd (omega (arith, h))
blank_of (suc n) (b ∷ bs) h e = ⊎_elim
    (λ (t : eqb b 10 ≡ true). first_ten (b ∷ bs) (omega arith) (eqb-true b 10 t))
    (λ (t : eqb b 10 ≡ false). gapped (λ q. false≢true (sym t ∙ eq-eqb b 10 q)) (gap_size (b ∷ bs)) refl (blank_of n))
    (cases_Bool (eqb b 10))
  where
    gapped : (b ≡ 10 → ⊥) → (o : Option ℕ) → gap_size (b ∷ bs) ≡ o
        → ((rest : List ℕ) → length rest ≤ n → is_blank n rest ≡ true → IsBlankLine rest) → IsBlankLine (b ∷ bs)
    gapped t None q next = absurd (false≢true (sym (blank_wrong (suc n) n (b ∷ bs) refl (omega arith) t q) ∙ e))
    gapped t (Some k) q next =
        let v = gap_view (b ∷ bs) k q in
        let len = ap (λ (xs : List ℕ). length xs) v.is in
        subst IsBlankLine (sym v.is) (⊎_elim
        (λ (r : eqb (run class.Line (take k (b ∷ bs))) k ≡ true).
        let r_is : run class.Line (take k (b ∷ bs)) ≡ k = eqb-true _ k r in
        let l : AllIn class.Line v.gap =
        line_all v.gap v.rest (ap (λ (i : ℕ). run class.Line (take i (v.gap ++ v.rest))) (sym v.size)
        ∙ ap (λ (xs : List ℕ). run class.Line (take k xs)) (sym v.is) ∙ r_is ∙ v.size) in
        let d : drop k (b ∷ bs) ≡ v.rest =
        ap (λ (i : ℕ). drop i (b ∷ bs)) v.size ∙ ap (drop (length v.gap)) v.is ∙ drop-append_seam v.gap v.rest in
        let blank : is_blank n v.rest ≡ true =
        sym (ap (is_blank n) d) ∙ sym (blank_goes_on (suc n) n k (b ∷ bs) refl (omega arith) t q r_is) ∙ e in
        Goes v.gap v.rest v.has l (next v.rest (omega (arith, h, len, v.some, length-append v.gap v.rest)) blank))
        (λ (r : eqb (run class.Line (take k (b ∷ bs))) k ≡ false).
        Passes v.gap v.rest v.has
        (λ l. false≢true (sym r
        ∙ eq-eqb _ k (ap (λ (i : ℕ). run class.Line (take i (b ∷ bs))) v.size
        ∙ ap (λ (xs : List ℕ). run class.Line (take (length v.gap) xs)) v.is ∙ line_run v.gap v.rest l ∙ sym v.size))))
        (cases_Bool (eqb (run class.Line (take k (b ∷ bs))) k)))

-- ---- times

same_bytes : (xs ys : List ℕ) → bytes_eq xs ys ≡ true → xs ≡ ys
same_bytes xs ys e = (bytes_decides xs ys).0 e

-- the digits of a time are digits, and no separator stands there
record DigitsOf (digits : List ℕ) : Type 0 where
  all : AllIn class.Digit digits
  starts : (rest : List ℕ) → Stops class.Separator (digits ++ rest)

magnitude_digits : (digits : List ℕ) (m : ℕ) → magnitude_of digits ≡ Some m → DigitsOf digits
magnitude_digits digits m e =
    (⊎_elim
    (λ (t : bytes_eq digits (codes "1") ≡ true). taken_for (codes "1") (same_bytes digits (codes "1") t)
    (record { all = refl; starts = λ rest. refl }))
    (λ (f0 : bytes_eq digits (codes "1") ≡ false). (⊎_elim
    (λ (t : bytes_eq digits (codes "10") ≡ true). taken_for (codes "10") (same_bytes digits (codes "10") t)
    (record { all = refl; starts = λ rest. refl }))
    (λ (f1 : bytes_eq digits (codes "10") ≡ false). (⊎_elim
    (λ (t : bytes_eq digits (codes "100") ≡ true). taken_for (codes "100") (same_bytes digits (codes "100") t)
    (record { all = refl; starts = λ rest. refl }))
    (λ (f2 : bytes_eq digits (codes "100") ≡ false). (let n : magnitude_of digits ≡ None = cond-false _ _ _ f0 ∙ cond-false _ _ _ f1
    ∙ cond-false _ _ _ f2 in absurd (none_some m (sym n ∙ e))))
    (cases_Bool (bytes_eq digits (codes "100")))))
    (cases_Bool (bytes_eq digits (codes "10")))))
    (cases_Bool (bytes_eq digits (codes "1"))))
  where
    taken_for : (ds : List ℕ) → digits ≡ ds → DigitsOf ds → DigitsOf digits
    taken_for ds q h = subst DigitsOf (sym q) h

record UnitOf (unit : List ℕ) : Type 0 where
  all : AllIn class.Name unit
  starts : (rest : List ℕ) → Stops class.Separator (unit ++ rest)
  no_digit : (rest : List ℕ) → Stops class.Digit (unit ++ rest)

unit_name : (unit : List ℕ) (f : ℕ) → unit_of unit ≡ Some f → UnitOf unit
unit_name unit f e =
    (⊎_elim
    (λ (t : bytes_eq unit (codes "s") ≡ true). taken_for (codes "s") (same_bytes unit (codes "s") t)
    (record { all = refl; starts = λ rest. refl; no_digit = λ rest. refl }))
    (λ (f0 : bytes_eq unit (codes "s") ≡ false). (⊎_elim
    (λ (t : bytes_eq unit (codes "ms") ≡ true). taken_for (codes "ms") (same_bytes unit (codes "ms") t)
    (record { all = refl; starts = λ rest. refl; no_digit = λ rest. refl }))
    (λ (f1 : bytes_eq unit (codes "ms") ≡ false). (⊎_elim
    (λ (t : bytes_eq unit (codes "us") ≡ true). taken_for (codes "us") (same_bytes unit (codes "us") t)
    (record { all = refl; starts = λ rest. refl; no_digit = λ rest. refl }))
    (λ (f2 : bytes_eq unit (codes "us") ≡ false). (⊎_elim
    (λ (t : bytes_eq unit (codes "ns") ≡ true). taken_for (codes "ns") (same_bytes unit (codes "ns") t)
    (record { all = refl; starts = λ rest. refl; no_digit = λ rest. refl }))
    (λ (f3 : bytes_eq unit (codes "ns") ≡ false). (⊎_elim
    (λ (t : bytes_eq unit (codes "ps") ≡ true). taken_for (codes "ps") (same_bytes unit (codes "ps") t)
    (record { all = refl; starts = λ rest. refl; no_digit = λ rest. refl }))
    (λ (f4 : bytes_eq unit (codes "ps") ≡ false). (⊎_elim
    (λ (t : bytes_eq unit (codes "fs") ≡ true). taken_for (codes "fs") (same_bytes unit (codes "fs") t)
    (record { all = refl; starts = λ rest. refl; no_digit = λ rest. refl }))
    (λ (f5 : bytes_eq unit (codes "fs") ≡ false). (let n : unit_of unit ≡ None = cond-false _ _ _ f0 ∙ cond-false _ _ _ f1
    ∙ cond-false _ _ _ f2 ∙ cond-false _ _ _ f3 ∙ cond-false _ _ _ f4 ∙ cond-false _ _ _ f5 in absurd (none_some f (sym n ∙ e))))
    (cases_Bool (bytes_eq unit (codes "fs")))))
    (cases_Bool (bytes_eq unit (codes "ps")))))
    (cases_Bool (bytes_eq unit (codes "ns")))))
    (cases_Bool (bytes_eq unit (codes "us")))))
    (cases_Bool (bytes_eq unit (codes "ms")))))
    (cases_Bool (bytes_eq unit (codes "s"))))
  where
    taken_for : (u : List ℕ) → unit ≡ u → UnitOf u → UnitOf unit
    taken_for u q h = subst UnitOf (sym q) h

time_step : (text : List ℕ)
    → time_after text ≡ time_of (run class.Separator text + run class.Digit (drop (run class.Separator text) text))
    (take (run class.Digit (drop (run class.Separator text) text)) (drop (run class.Separator text) text))
    (word_after (drop (run class.Digit (drop (run class.Separator text) text)) (drop (run class.Separator text) text)))
unfolding time_after
time_step text = refl

-- what the code finds in a time's text
time_split : (before digits rest : List ℕ) → AllIn class.Separator before → Stops class.Separator (digits ++ rest)
    → AllIn class.Digit digits → Stops class.Digit rest → time_after (before ++ (digits ++ rest))
    ≡ time_of (length before + length digits) digits (word_after rest)
time_split before digits rest b s d t =
    let k = run_is class.Separator before (digits ++ rest) b s in
    let m = run_is class.Digit digits rest d t in
    time_step (before ++ (digits ++ rest))
    ∙ ap (λ (i : ℕ). time_of (i + run class.Digit (drop i (before ++ (digits ++ rest))))
    (take (run class.Digit (drop i (before ++ (digits ++ rest)))) (drop i (before ++ (digits ++ rest))))
    (word_after (drop (run class.Digit (drop i (before ++ (digits ++ rest)))) (drop i (before ++ (digits ++ rest)))))) k
    ∙ ap (λ (xs : List ℕ). time_of (length before + run class.Digit xs) (take (run class.Digit xs) xs)
    (word_after (drop (run class.Digit xs) xs))) (drop-append_seam before (digits ++ rest))
    ∙ ap (λ (i : ℕ). time_of (length before + i) (take i (digits ++ rest)) (word_after (drop i (digits ++ rest)))) m
    ∙ ap (λ (xs : List ℕ). time_of (length before + length digits) xs (word_after (drop (length digits) (digits ++ rest))))
    (take-append_seam digits rest)
    ∙ ap (λ (xs : List ℕ). time_of (length before + length digits) digits (word_after xs)) (drop-append_seam digits rest)

of_is : (size m f : ℕ) (digits : List ℕ) (unit : ℕ × List ℕ) → magnitude_of digits ≡ Some m → unit_of unit.1 ≡ Some f
    → time_of size digits unit ≡ Some (size + unit.0, m * f)
of_is size m f digits unit a b =
    ap (λ o. o >>= λ magnitude. unit_of unit.1 >>= λ femtoseconds. Some (size + unit.0, magnitude * femtoseconds)) a
    ∙ ap (λ o. o >>= λ femtoseconds. Some (size + unit.0, m * femtoseconds)) b

time_is : (time : ℕ) (parts behind : List ℕ) → TimePart time parts → Stops class.Name behind
    → time_after (parts ++ behind) ≡ Some (length parts, time)
time_is time parts behind h s =
    let d = magnitude_digits h.digits h.magnitude h.counted in
    let u = unit_name h.unit h.femtoseconds h.measured in
    let rest = h.between ++ (h.unit ++ behind) in
    let e : parts ++ behind ≡ h.before ++ (h.digits ++ rest) =
    ap (λ (xs : List ℕ). xs ++ behind) h.is ∙ append_five h.before h.digits h.between h.unit behind in
    let w = after_is h.between h.unit behind h.parted (u.starts behind) u.all s in
    let n : length h.before + length h.digits + (length h.between + length h.unit) ≡ length parts =
    omega (arith, length_four h.before h.digits h.between h.unit, ap (λ (xs : List ℕ). length xs) h.is) in
    ap time_after e
    ∙ time_split h.before h.digits rest h.separated (d.starts rest) d.all
    (gap_stops_digit h.between (h.unit ++ behind) h.parted (u.no_digit behind))
    ∙ ap (time_of (length h.before + length h.digits) h.digits) w
    ∙ of_is (length h.before + length h.digits) h.magnitude h.femtoseconds h.digits (length h.between + length h.unit, h.unit) h.counted
    h.measured
    ∙ ap (λ (k : ℕ). Some (k, h.magnitude * h.femtoseconds)) n ∙ ap (λ (k : ℕ). Some (length parts, k)) (sym h.total)

record TimeView (text : List ℕ) (t : ℕ × ℕ) : Type 0 where
  parts : List ℕ
  behind : List ℕ
  is : text ≡ parts ++ behind
  has : TimePart t.1 parts
  ends : Stops class.Name behind
  size : t.0 ≡ length parts

time_view : (text : List ℕ) (t : ℕ × ℕ) → time_after text ≡ Some t → TimeView text t
time_view text t e =
    let a = split class.Separator text in
    let b = split class.Digit a.rest in
    let v = view_word b.rest in
    let whole : text ≡ a.front ++ (b.front ++ b.rest) = a.is ∙ ap (λ (xs : List ℕ). a.front ++ xs) b.is in
    let q : time_of (length a.front + length b.front) b.front (length v.gap + length v.name, v.name) ≡ Some t =
    sym (ap time_after whole ∙ time_split a.front b.front b.rest a.all (subst (Stops class.Separator) b.is a.stops) b.all b.stops
    ∙ ap (time_of (length a.front + length b.front) b.front) v.found) ∙ e in
    let size = length a.front + length b.front in
    let m = bind_some (magnitude_of b.front)
    (λ magnitude. unit_of v.name >>= λ femtoseconds. Some (size + (length v.gap + length v.name), magnitude * femtoseconds)) t q in
    let f = bind_some (unit_of v.name) (λ femtoseconds. Some (size + (length v.gap + length v.name), m.0 * femtoseconds)) t m.2 in
    let is : (size + (length v.gap + length v.name), m.0 * f.0) ≡ t = some_is (size + (length v.gap + length v.name), m.0 * f.0) t f.2 in
    subst (TimeView text) is
    (record {
      parts = a.front ++ (b.front ++ (v.gap ++ v.name));
      behind = v.rest;
      is = whole ∙ ap (λ (xs : List ℕ). a.front ++ (b.front ++ xs)) v.is ∙ sym (append_five a.front b.front v.gap v.name v.rest);
      has = record {
        before = a.front;
        digits = b.front;
        between = v.gap;
        unit = v.name;
        magnitude = m.0;
        femtoseconds = f.0;
        is = refl;
        separated = a.all;
        parted = v.separated;
        counted = m.1;
        measured = f.1;
        total = refl;
      };
      ends = v.ends;
      size = omega (arith, length_four a.front b.front v.gap v.name);
    })

-- ---- a unit and a precision

slash_step : (text : List ℕ)
    → slash_after text ≡ cond (begins (drop (run class.Separator text) text) (codes "/")) (Some (run class.Separator text + 1)) None
unfolding slash_after
slash_step text = refl

slash_split : (gap rest : List ℕ) → AllIn class.Separator gap → Stops class.Separator rest
    → slash_after (gap ++ rest) ≡ cond (begins rest (codes "/")) (Some (length gap + 1)) None
slash_split gap rest g s =
    slash_step (gap ++ rest)
    ∙ ap (λ (i : ℕ). cond (begins (drop i (gap ++ rest)) (codes "/")) (Some (i + 1)) None) (run_is class.Separator gap rest g s)
    ∙ ap (λ (xs : List ℕ). cond (begins xs (codes "/")) (Some (length gap + 1)) None) (drop-append_seam gap rest)

record SlashView (text : List ℕ) (n : ℕ) : Type 0 where
  gap : List ℕ
  rest : List ℕ
  is : text ≡ gap ++ (47 ∷ rest)
  separated : AllIn class.Separator gap
  size : n ≡ length gap + 1

slash_view : (text : List ℕ) (n : ℕ) → slash_after text ≡ Some n → SlashView text n
slash_view text n e =
    let s = split class.Separator text in
    let q = ap slash_after s.is ∙ slash_split s.front s.rest s.all s.stops in
    ⊎_elim
    (λ (t : begins s.rest (codes "/") ≡ true).
    record {
      gap = s.front;
      rest = drop 1 s.rest;
      is = s.is ∙ ap (λ (xs : List ℕ). s.front ++ xs) (begins_of s.rest (codes "/") t);
      separated = s.all;
      size = sym (some_is (length s.front + 1) n (sym (q ∙ cond-true _ _ _ t) ∙ e));
    })
    (λ (t : begins s.rest (codes "/") ≡ false). absurd (none_some n (sym (q ∙ cond-false _ _ _ t) ∙ e)))
    (cases_Bool (begins s.rest (codes "/")))

abbrev third : ℕ → ℕ → ℕ → List ℕ → Option (ℕ × Directive)
third size unit slash text =
    time_after (drop (size + slash) text) >>= λ precision. Some (size + slash + precision.0, directive.TimeScale unit precision.1)

scale_step : (text : List ℕ)
    → scale_after text ≡ (time_after text >>= λ unit. slash_after (drop unit.0 text) >>= λ slash. third unit.0 unit.1 slash text)
unfolding scale_after
scale_step text = refl

-- what is left of a text whose front is taken, and a gap and a slash
left_of : (first gap rest : List ℕ) → drop (length first + (length gap + 1)) (first ++ (gap ++ (47 ∷ rest))) ≡ rest
left_of first gap rest =
    let a : first ++ (gap ++ (47 ∷ rest)) ≡ (first ++ (gap ++ (47 ∷ []))) ++ rest = sym (append_four first gap (47 ∷ []) rest) in
    let n : length first + (length gap + 1) ≡ length (first ++ (gap ++ (47 ∷ []))) =
    omega (arith, length-append first (gap ++ (47 ∷ [])), length-append gap (47 ∷ [])) in
    ap (drop (length first + (length gap + 1))) a ∙ ap (λ (k : ℕ). drop k ((first ++ (gap ++ (47 ∷ []))) ++ rest)) n
    ∙ drop-append_seam (first ++ (gap ++ (47 ∷ []))) rest

scale_is : (u p : ℕ) (parts behind : List ℕ) → ScalePart u p parts behind
    → scale_after (parts ++ behind) ≡ Some (length parts, directive.TimeScale u p)
scale_is u p parts behind h =
    let rest = h.second ++ behind in
    let tail = h.gap ++ (47 ∷ rest) in
    let text = h.first ++ tail in
    let e : parts ++ behind ≡ text = ap (λ (xs : List ℕ). xs ++ behind) h.is ∙ append_four h.first h.gap (47 ∷ h.second) behind in
    let a : time_after text ≡ Some (length h.first, u) =
    time_is u h.first tail h.unit_time (gap_stops_name h.gap (47 ∷ rest) h.separated refl) in
    let b : slash_after (drop (length h.first) text) ≡ Some (length h.gap + 1) =
    ap slash_after (drop-append_seam h.first tail) ∙ slash_split h.gap (47 ∷ rest) h.separated refl in
    let c : time_after (drop (length h.first + (length h.gap + 1)) text) ≡ Some (length h.second, p) =
    ap time_after (left_of h.first h.gap rest) ∙ time_is p h.second behind h.precision_time h.ends in
    let n : length h.first + (length h.gap + 1) + length h.second ≡ length parts =
    omega (
      arith,
      length-append h.first (h.gap ++ (47 ∷ h.second)),
      length-append h.gap (47 ∷ h.second),
      ap (λ (xs : List ℕ). length xs) h.is,
    ) in
    ap scale_after e ∙ scale_step text
    ∙ ap (λ o. o >>= λ unit. slash_after (drop unit.0 text) >>= λ slash. third unit.0 unit.1 slash text) a
    ∙ ap (λ o. o >>= λ slash. third (length h.first) u slash text) b
    ∙ ap (λ o. o >>= λ precision. Some (length h.first + (length h.gap + 1) + precision.0, directive.TimeScale u precision.1)) c
    ∙ ap (λ (k : ℕ). Some (k, directive.TimeScale u p)) n

record ScaleView (text : List ℕ) (d : ℕ × Directive) : Type 0 where
  unit : ℕ
  precision : ℕ
  parts : List ℕ
  behind : List ℕ
  is : text ≡ parts ++ behind
  kind : d.1 ≡ directive.TimeScale unit precision
  has : ScalePart unit precision parts behind
  size : d.0 ≡ length parts

scale_view : (text : List ℕ) (d : ℕ × Directive) → scale_after text ≡ Some d → ScaleView text d
scale_view text d e =
    let u = bind_some (time_after text) (λ unit. slash_after (drop unit.0 text) >>= λ slash. third unit.0 unit.1 slash text) d
    (sym (scale_step text) ∙ e) in
    let s = bind_some (slash_after (drop u.0.0 text)) (λ slash. third u.0.0 u.0.1 slash text) d u.2 in
    let p = bind_some (time_after (drop (u.0.0 + s.0) text))
    (λ precision. Some (u.0.0 + s.0 + precision.0, directive.TimeScale u.0.1 precision.1)) d s.2 in
    let a = time_view text u.0 u.1 in
    let left : drop u.0.0 text ≡ a.behind =
    ap (λ (k : ℕ). drop k text) a.size ∙ ap (drop (length a.parts)) a.is ∙ drop-append_seam a.parts a.behind in
    let b = slash_view a.behind s.0 (sym (ap slash_after left) ∙ s.1) in
    let whole : text ≡ a.parts ++ (b.gap ++ (47 ∷ b.rest)) = a.is ∙ ap (λ (xs : List ℕ). a.parts ++ xs) b.is in
    let rest : drop (u.0.0 + s.0) text ≡ b.rest =
    ap (λ (k : ℕ). drop (k + s.0) text) a.size ∙ ap (λ (k : ℕ). drop (length a.parts + k) text) b.size
    ∙ ap (drop (length a.parts + (length b.gap + 1))) whole ∙ left_of a.parts b.gap b.rest in
    let c = time_view b.rest p.0 (sym (ap time_after rest) ∙ p.1) in
    let is : (u.0.0 + s.0 + p.0.0, directive.TimeScale u.0.1 p.0.1) ≡ d =
    some_is (u.0.0 + s.0 + p.0.0, directive.TimeScale u.0.1 p.0.1) d p.2 in
    subst (ScaleView text) is
    (record {
      unit = u.0.1;
      precision = p.0.1;
      parts = a.parts ++ (b.gap ++ (47 ∷ c.parts));
      behind = c.behind;
      is = whole ∙ ap (λ (xs : List ℕ). a.parts ++ (b.gap ++ (47 ∷ xs))) c.is ∙ sym (append_four a.parts b.gap (47 ∷ c.parts) c.behind);
      kind = refl;
      has = record {
        first = a.parts;
        gap = b.gap;
        second = c.parts;
        is = refl;
        unit_time = a.has;
        separated = b.separated;
        precision_time = c.has;
        ends = c.ends;
      };
      size = omega (arith, a.size, b.size, c.size, length-append a.parts (b.gap ++ (47 ∷ c.parts)), length-append b.gap (47 ∷ c.parts));
    })

-- ---- the kinds of nets

net_name : (name : List ℕ) → (name ≡ codes "none") ⊎ (name ≡ codes "wire") → IsWord name
net_name name h =
    ⊎_elim (λ (e : name ≡ codes "none"). subst IsWord (sym e) (refl, refl))
    (λ (e : name ≡ codes "wire"). subst IsWord (sym e) (refl, refl)) h

net_test : (name : List ℕ) → (name ≡ codes "none") ⊎ (name ≡ codes "wire")
    → (bytes_eq name (codes "none") || bytes_eq name (codes "wire")) ≡ true
net_test name h =
    ⊎_elim (λ (e : name ≡ codes "none"). subst (λ (xs : List ℕ). (bytes_eq xs (codes "none") || bytes_eq xs (codes "wire")) ≡ true)
    (sym e) refl)
    (λ (e : name ≡ codes "wire"). subst (λ (xs : List ℕ). (bytes_eq xs (codes "none") || bytes_eq xs (codes "wire")) ≡ true)
    (sym e) refl) h

net_is : (size : ℕ) (parts behind : List ℕ) → NetTypePart parts behind → net_type_or_broken size (word_after (parts ++ behind))
    ≡ directive_of_parts (size + length parts) directive.DefaultNetType
net_is size parts behind h =
    let gap = h.0 in
    let name = h.1 in
    let word = net_name name h.4 in
    let e : parts ++ behind ≡ gap ++ (name ++ behind) = ap (λ (xs : List ℕ). xs ++ behind) h.2 ∙ append_assoc gap name behind in
    let w = after_is gap name behind h.3 (name_starts name behind word) (name_all name word) h.5 in
    let n : length gap + length name ≡ length parts = omega (arith, length-append gap name, ap (λ (xs : List ℕ). length xs) h.2) in
    ap (λ (xs : List ℕ). net_type_or_broken size (word_after xs)) e ∙ ap (net_type_or_broken size) w
    ∙ cond-true (bytes_eq name (codes "none") || bytes_eq name (codes "wire")) _ _ (net_test name h.4)
    ∙ ap (λ (k : ℕ). directive_of_parts (size + k) directive.DefaultNetType) n

-- ---- a directive with its parts

named_is : (size : ℕ) (w : DirectiveWord) (name parts behind : List ℕ) → NamePart name parts behind
    → named_or_broken size w (name_after (parts ++ behind)) ≡ directive_of_parts (size + length parts) (with_name w name)
named_is size w name parts behind h = ap (named_or_broken size w) (name_is name parts behind h)

define_is : (size : ℕ) (name parts behind : List ℕ) → NamePart name parts behind → IsBlankLine behind
    → define_or_broken size (parts ++ behind) (name_after (parts ++ behind))
    ≡ directive_of_parts (size + length parts) (directive.Define name)
define_is size name parts behind h b =
    let d = drop-append_seam parts behind in
    let t : is_blank (length (drop (length parts) (parts ++ behind))) (drop (length parts) (parts ++ behind)) ≡ true =
    ap (λ (xs : List ℕ). is_blank (length xs) xs) d ∙ blank_is behind b (length behind) (omega arith) in
    ap (define_or_broken size (parts ++ behind)) (name_is name parts behind h) ∙ cond-true _ _ _ t

bare_size : (size : ℕ) (parts : List ℕ) (d : Directive) → parts ≡ []
    → directive_of_parts size d ≡ directive_of_parts (size + length parts) d
bare_size size parts d e = ap (λ (k : ℕ). directive_of_parts k d) (omega (arith, ap (λ (xs : List ℕ). length xs) e))

with_is : (size : ℕ) (d : Directive) (w : DirectiveWord) (parts behind : List ℕ) → Parts d w parts behind
    → directive_with size (parts ++ behind) (Some w) ≡ directive_of_parts (size + length parts) d
unfolding directive_with
with_is size (directive.TimeScale u p) word.TimeScale parts behind h = ap (scale_or_broken size) (scale_is u p parts behind h)
with_is size (directive.Define name) word.Define parts behind h = define_is size name parts behind h.0 h.1
with_is size (directive.Undef name) word.Undef parts behind h = named_is size word.Undef name parts behind h
with_is size (directive.IfDef name) word.IfDef parts behind h = named_is size word.IfDef name parts behind h
with_is size (directive.IfNDef name) word.IfNDef parts behind h = named_is size word.IfNDef name parts behind h
with_is size (directive.ElsIf name) word.ElsIf parts behind h = named_is size word.ElsIf name parts behind h
with_is size directive.Else word.Else parts behind h = bare_size size parts directive.Else h
with_is size directive.EndIf word.EndIf parts behind h = bare_size size parts directive.EndIf h
with_is size directive.ResetAll word.ResetAll parts behind h = bare_size size parts directive.ResetAll h
with_is size directive.DefaultNetType word.DefaultNetType parts behind h = net_is size parts behind h
with_is size _ _ parts behind h = absurd h

-- a conditional without a name is opened, all others are broken
abbrev bare_of : DirectiveWord → Directive
bare_of word.IfDef = directive.Unnamed
bare_of word.IfNDef = directive.Unnamed
bare_of _ = directive.Broken

-- with its parts, or without
pub data View (size : ℕ) (w : DirectiveWord) (after : List ℕ) : Type 0 where
  Full : (d : Directive) (parts behind : List ℕ) → after ≡ parts ++ behind → Parts d w parts behind → View size w after
  Lacking : directive_with size after (Some w) ≡ directive_of_parts size (bare_of w) → View size w after

view_named : (size : ℕ) (w : DirectiveWord) (after : List ℕ) (d : List ℕ → Directive) (b : Directive)
    → ((name parts behind : List ℕ) → NamePart name parts behind → Parts (d name) w parts behind)
    → (name_after after ≡ None → directive_with size after (Some w) ≡ directive_of_parts size (bare_of w))
    → (o : Option (ℕ × List ℕ)) → name_after after ≡ o → View size w after
view_named size w after d b full lacking (Some a) e =
    let v = name_view after a e in Full (d a.1) v.parts v.behind v.is (full a.1 v.parts v.behind v.has)
view_named size w after d b full lacking None e = Lacking (lacking e)

view_scale : (size : ℕ) (after : List ℕ) (o : Option (ℕ × Directive)) → scale_after after ≡ o → View size word.TimeScale after
unfolding directive_with
view_scale size after (Some d) e =
    let v = scale_view after d e in Full (directive.TimeScale v.unit v.precision) v.parts v.behind v.is v.has
view_scale size after None e = Lacking (ap (scale_or_broken size) e)

view_define : (size : ℕ) (after : List ℕ) (o : Option (ℕ × List ℕ)) → name_after after ≡ o → View size word.Define after
unfolding directive_with
view_define size after None e = Lacking (ap (define_or_broken size after) e)
view_define size after (Some a) e =
    let v = name_view after a e in
    let d : drop a.0 after ≡ v.behind =
    ap (λ (k : ℕ). drop k after) v.size ∙ ap (drop (length v.parts)) v.is ∙ drop-append_seam v.parts v.behind in
    ⊎_elim
    (λ (t : is_blank (length (drop a.0 after)) (drop a.0 after) ≡ true).
    Full (directive.Define a.1) v.parts v.behind v.is
    (v.has, blank_of (length v.behind) v.behind (omega arith) (sym (ap (λ (xs : List ℕ). is_blank (length xs) xs) d) ∙ t)))
    (λ (t : is_blank (length (drop a.0 after)) (drop a.0 after) ≡ false). Lacking (ap (define_or_broken size after) e
    ∙ cond-false _ _ _ t))
    (cases_Bool (is_blank (length (drop a.0 after)) (drop a.0 after)))

view_net : (size : ℕ) (after : List ℕ) → View size word.DefaultNetType after
unfolding directive_with
view_net size after =
    let v = view_word after in
    ⊎_elim
    (λ (t : (bytes_eq v.name (codes "none") || bytes_eq v.name (codes "wire")) ≡ true).
    Full directive.DefaultNetType (v.gap ++ v.name) v.rest (v.is ∙ sym (append_assoc v.gap v.name v.rest))
    (v.gap, v.name, refl, v.separated, either v.name t, v.ends))
    (λ (t : (bytes_eq v.name (codes "none") || bytes_eq v.name (codes "wire")) ≡ false). Lacking (ap (net_type_or_broken size) v.found
    ∙ cond-false _ _ _ t))
    (cases_Bool (bytes_eq v.name (codes "none") || bytes_eq v.name (codes "wire")))
  where
    either : (name : List ℕ) → (bytes_eq name (codes "none") || bytes_eq name (codes "wire")) ≡ true
        → (name ≡ codes "none") ⊎ (name ≡ codes "wire")
    either name t = ⊎_elim
        (λ (a : bytes_eq name (codes "none") ≡ true). inl (same_bytes name (codes "none") a))
        (λ (a : bytes_eq name (codes "wire") ≡ true). inr (same_bytes name (codes "wire") a))
        (or_cases (bytes_eq name (codes "none")) (bytes_eq name (codes "wire")) t)

view_with : (size : ℕ) (w : DirectiveWord) (after : List ℕ) → View size w after
unfolding directive_with
view_with size word.TimeScale after = view_scale size after (scale_after after) refl
view_with size word.Define after = view_define size after (name_after after) refl
view_with size word.DefaultNetType after = view_net size after
view_with size word.Else after = Full directive.Else [] after refl refl
view_with size word.EndIf after = Full directive.EndIf [] after refl refl
view_with size word.ResetAll after = Full directive.ResetAll [] after refl refl
view_with size word.Undef after =
    view_named size word.Undef after (λ n. directive.Undef n) directive.Broken (λ n p b h. h)
    (λ e. ap (named_or_broken size word.Undef) e) (name_after after) refl
view_with size word.IfDef after =
    view_named size word.IfDef after (λ n. directive.IfDef n) directive.Unnamed (λ n p b h. h)
    (λ e. ap (named_or_broken size word.IfDef) e) (name_after after) refl
view_with size word.IfNDef after =
    view_named size word.IfNDef after (λ n. directive.IfNDef n) directive.Unnamed (λ n p b h. h)
    (λ e. ap (named_or_broken size word.IfNDef) e) (name_after after) refl
view_with size word.ElsIf after =
    view_named size word.ElsIf after (λ n. directive.ElsIf n) directive.Broken (λ n p b h. h)
    (λ e. ap (named_or_broken size word.ElsIf) e) (name_after after) refl

-- ---- the word of a directive

word_found : (w : DirectiveWord) → directive_of (directive_spelling w) ≡ Some w
unfolding directive_of
word_found word.DefaultNetType = refl
word_found _ = refl

word_all : (w : DirectiveWord) → AllIn class.Name (directive_spelling w)
word_all word.DefaultNetType = refl
word_all _ = refl

word_is : (name : List ℕ) (w : DirectiveWord) → directive_of name ≡ Some w → name ≡ directive_spelling w
unfolding directive_of
word_is name w e = same_bytes name (directive_spelling w) (find_test (λ d. bytes_eq name (directive_spelling d)) directive_words w e)

at_step : (after : List ℕ)
    → directive_at after
    ≡ directive_with (1 + run class.Name after) (drop (run class.Name after) after) (directive_of (take (run class.Name after) after))
unfolding directive_at
at_step after = refl

pub front_word : (name rest : List ℕ) → AllIn class.Name name → Stops class.Name rest
    → take (run class.Name (name ++ rest)) (name ++ rest) ≡ name
front_word name rest n s = ap (λ (i : ℕ). take i (name ++ rest)) (run_is class.Name name rest n s) ∙ take-append_seam name rest

at_split : (name rest : List ℕ) → AllIn class.Name name → Stops class.Name rest
    → directive_at (name ++ rest) ≡ directive_with (1 + length name) rest (directive_of name)
at_split name rest n s =
    at_step (name ++ rest)
    ∙ ap (λ (i : ℕ). directive_with (1 + i) (drop i (name ++ rest)) (directive_of (take i (name ++ rest))))
    (run_is class.Name name rest n s)
    ∙ ap (λ (xs : List ℕ). directive_with (1 + length name) xs (directive_of (take (length name) (name ++ rest))))
    (drop-append_seam name rest)
    ∙ ap (λ (xs : List ℕ). directive_with (1 + length name) rest (directive_of xs)) (take-append_seam name rest)

at_word : (w : DirectiveWord) (rest : List ℕ) → Stops class.Name rest → directive_at (directive_spelling w ++ rest)
    ≡ directive_with (1 + length (directive_spelling w)) rest (Some w)
at_word w rest s =
    at_split (directive_spelling w) rest (word_all w) s ∙ ap (directive_with (1 + length (directive_spelling w)) rest) (word_found w)

-- ---- whole directives

pub whole_again : (d : Directive) (bytes behind : List ℕ) (h : IsWhole d bytes behind)
    → bytes ++ behind ≡ 96 ∷ (directive_spelling h.word ++ (h.parts ++ behind))
whole_again d bytes behind h =
    ap (λ (xs : List ℕ). xs ++ behind) h.is ∙ ap (λ (xs : List ℕ). 96 ∷ xs) (append_assoc (directive_spelling h.word) h.parts behind)

whole_is : (d : Directive) (bytes behind after : List ℕ) → IsWhole d bytes behind → bytes ++ behind ≡ 96 ∷ after
    → directive_at after ≡ directive_of_parts (length bytes) d
whole_is d bytes behind after h e =
    let q : after ≡ directive_spelling h.word ++ (h.parts ++ behind) = ap (drop 1) (sym e ∙ whole_again d bytes behind h) in
    let n : 1 + length (directive_spelling h.word) + length h.parts ≡ length bytes =
    omega (arith, length-append (directive_spelling h.word) h.parts, ap (λ (xs : List ℕ). length xs) h.is) in
    ap directive_at q ∙ at_word h.word (h.parts ++ behind) h.ends
    ∙ with_is (1 + length (directive_spelling h.word)) d h.word h.parts behind h.has
    ∙ ap (λ (k : ℕ). directive_of_parts k d) n

-- A directive with its parts isn't broken.
whole_directive : (d : Directive) (bytes behind : List ℕ) → IsWhole d bytes behind → IsDirective d bytes behind
whole_directive directive.Broken bytes behind h = absurd (no_broken h.word h.parts behind h.has)
  where
    no_broken : (w : DirectiveWord) (parts behind : List ℕ) → Parts directive.Broken w parts behind → ⊥
    no_broken word.Else parts behind h = h
    no_broken _ parts behind h = h
whole_directive directive.Unnamed bytes behind h = absurd (no_unnamed h.word h.parts behind h.has)
  where
    no_unnamed : (w : DirectiveWord) (parts behind : List ℕ) → Parts directive.Unnamed w parts behind → ⊥
    no_unnamed word.Else parts behind h = h
    no_unnamed _ parts behind h = h
whole_directive (directive.TimeScale u p) bytes behind h = h
whole_directive (directive.Define name) bytes behind h = h
whole_directive (directive.Undef name) bytes behind h = h
whole_directive (directive.IfDef name) bytes behind h = h
whole_directive (directive.IfNDef name) bytes behind h = h
whole_directive (directive.ElsIf name) bytes behind h = h
whole_directive directive.Else bytes behind h = h
whole_directive directive.EndIf bytes behind h = h
whole_directive directive.ResetAll bytes behind h = h
whole_directive directive.DefaultNetType bytes behind h = h

abbrev is_whole : Directive → Bool
is_whole directive.Broken = false
is_whole directive.Unnamed = false
is_whole _ = true

parts_whole : (d : Directive) (w : DirectiveWord) (parts behind : List ℕ) → Parts d w parts behind → is_whole d ≡ true
parts_whole directive.Broken word.Else parts behind h = absurd h
parts_whole directive.Broken _ parts behind h = absurd h
parts_whole directive.Unnamed word.Else parts behind h = absurd h
parts_whole directive.Unnamed _ parts behind h = absurd h
parts_whole _ w parts behind h = refl

-- ---- bare words

abbrev kind_of : Content → Bool
kind_of (content.Directive d) = is_whole d
kind_of _ = true

-- where the code finds a broken directive, none stands with its parts
lacks_whole : (after : List ℕ) (n : ℕ) (b : Directive) → is_whole b ≡ false → directive_at after ≡ directive_of_parts n b
    → (d : Directive) (front rest : List ℕ) → 96 ∷ after ≡ front ++ rest → IsWhole d front rest → ⊥
lacks_whole after n b w q d front rest e h =
    let same : directive_of_parts n b ≡ directive_of_parts (length front) d = sym q ∙ whole_is d front rest after h (sym e) in
    let k : is_whole b ≡ is_whole d = ap (λ (p : Piece). kind_of p.content) same in
    false≢true (sym w ∙ k ∙ parts_whole d h.word h.parts rest h.has)

bare_whole : (w : DirectiveWord) → is_whole (bare_of w) ≡ false
bare_whole word.IfDef = refl
bare_whole _ = refl

abbrev opens : DirectiveWord → Bool
opens word.IfDef = true
opens word.IfNDef = true
opens _ = false

unnamed_word : (name : List ℕ) (w : DirectiveWord) → directive_of name ≡ Some w → IsUnnamed name → opens w ≡ true
unnamed_word name w e u = ⊎_elim
    (λ (q : name ≡ codes "ifdef"). sym (ap opens (some_is word.IfDef w (sym (word_found word.IfDef) ∙ ap directive_of (sym q) ∙ e))))
    (λ (q : name ≡ codes "ifndef"). sym (ap opens (some_is word.IfNDef w (sym (word_found word.IfNDef) ∙ ap directive_of (sym q) ∙ e))))
    u

other_word : (w : DirectiveWord) (name : List ℕ) → opens w ≡ false → name ≡ directive_spelling w → IsUnnamed name → ⊥
other_word w name o e u = false≢true (sym o ∙ unnamed_word name w (ap directive_of e ∙ word_found w) u)

-- a bare word's directive
bare_directive : (name rest : List ℕ) (w : DirectiveWord) → name ≡ directive_spelling w → IsBare name (96 ∷ name) rest
    → IsDirective (bare_of w) (96 ∷ name) rest
bare_directive name rest word.IfDef e h = (name, h, inl e)
bare_directive name rest word.IfNDef e h = (name, h, inr e)
bare_directive name rest word.DefaultNetType e h = (name, h, λ u. other_word word.DefaultNetType name refl e u)
bare_directive name rest word.Define e h = (name, h, λ u. other_word word.Define name refl e u)
bare_directive name rest word.Else e h = (name, h, λ u. other_word word.Else name refl e u)
bare_directive name rest word.ElsIf e h = (name, h, λ u. other_word word.ElsIf name refl e u)
bare_directive name rest word.EndIf e h = (name, h, λ u. other_word word.EndIf name refl e u)
bare_directive name rest word.ResetAll e h = (name, h, λ u. other_word word.ResetAll name refl e u)
bare_directive name rest word.TimeScale e h = (name, h, λ u. other_word word.TimeScale name refl e u)
bare_directive name rest word.Undef e h = (name, h, λ u. other_word word.Undef name refl e u)

-- what the code finds behind a backquote, stands there
pub record Found (after : List ℕ) : Type 0 where
  pub bytes : List ℕ
  pub behind : List ℕ
  pub kind : Directive
  pub is : 96 ∷ after ≡ bytes ++ behind
  pub found : directive_at after ≡ directive_of_parts (length bytes) kind
  pub stands : IsDirective kind bytes behind

found_bare : (name rest : List ℕ) (b : Directive) → AllIn class.Name name → Stops class.Name rest → is_whole b ≡ false
    → directive_at (name ++ rest) ≡ directive_of_parts (1 + length name) b
    → (IsBare name (96 ∷ name) rest → IsDirective b (96 ∷ name) rest) → Found (name ++ rest)
found_bare name rest b n s w q stands =
    let k : directive_at (name ++ rest) ≡ directive_of_parts (length (96 ∷ name)) b =
    q ∙ ap (λ (i : ℕ). directive_of_parts i b) (omega arith) in
    record {
      bytes = 96 ∷ name;
      behind = rest;
      kind = b;
      is = refl;
      found = k;
      stands =
          stands (record {
            is = refl;
            named = n;
            ends = s;
            lacks = λ d front tail e h. lacks_whole (name ++ rest) (length (96 ∷ name)) b w k d front tail e h;
          });
    }

found_word : (w : DirectiveWord) (rest : List ℕ) → Stops class.Name rest → View (1 + length (directive_spelling w)) w rest
    → Found (directive_spelling w ++ rest)
found_word w rest s (Full d parts behind e h) =
    let whole : IsWhole d (96 ∷ (directive_spelling w ++ parts)) behind =
    record { word = w; parts = parts; is = refl; ends = subst (Stops class.Name) e s; has = h } in
    let is : 96 ∷ (directive_spelling w ++ rest) ≡ (96 ∷ (directive_spelling w ++ parts)) ++ behind =
    ap (λ (xs : List ℕ). 96 ∷ (directive_spelling w ++ xs)) e
    ∙ ap (λ (xs : List ℕ). 96 ∷ xs) (sym (append_assoc (directive_spelling w) parts behind)) in
    record {
      bytes = 96 ∷ (directive_spelling w ++ parts);
      behind = behind;
      kind = d;
      is = is;
      found = whole_is d (96 ∷ (directive_spelling w ++ parts)) behind (directive_spelling w ++ rest) whole (sym is);
      stands = whole_directive d (96 ∷ (directive_spelling w ++ parts)) behind whole;
    }
found_word w rest s (Lacking q) =
    found_bare (directive_spelling w) rest (bare_of w) (word_all w) s (bare_whole w) (at_word w rest s ∙ q)
    (bare_directive (directive_spelling w) rest w refl)

none_with : (size : ℕ) (rest : List ℕ) → directive_with size rest None ≡ directive_of_parts size directive.Broken
unfolding directive_with
none_with size rest = refl

none_named : (name : List ℕ) → directive_of name ≡ None → IsUnnamed name → ⊥
none_named name e u = ⊎_elim
    (λ (q : name ≡ codes "ifdef"). none_some word.IfDef (sym e ∙ ap directive_of q ∙ word_found word.IfDef))
    (λ (q : name ≡ codes "ifndef"). none_some word.IfNDef (sym e ∙ ap directive_of q ∙ word_found word.IfNDef))
    u

found_front : (name rest : List ℕ) → AllIn class.Name name → Stops class.Name rest → (o : Option DirectiveWord) → directive_of name ≡ o
    → Found (name ++ rest)
found_front name rest n s (Some w) e =
    let q = word_is name w e in
    subst (λ (xs : List ℕ). Found (xs ++ rest)) (sym q) (found_word w rest s (view_with (1 + length (directive_spelling w)) w rest))
found_front name rest n s None e =
    found_bare name rest directive.Broken n s refl (at_split name rest n s ∙ ap (directive_with (1 + length name) rest) e
    ∙ none_with (1 + length name) rest) (λ h. (name, h, none_named name e))

pub found : (after : List ℕ) → Found after
found after =
    let s = split class.Name after in
    subst Found (sym s.is) (found_front s.front s.rest s.all s.stops (directive_of s.front) refl)

pub directive_stands : (after : List ℕ) → Standing (96 ∷ after) (directive_at after)
directive_stands after =
    let f = found after in
    subst (Standing (96 ∷ after)) (sym f.found)
    (record { bytes = f.bytes; behind = f.behind; is = f.is; size = refl; stands = f.stands })

-- ---- what stands behind a backquote, the code finds

abbrev named_of : Directive → List ℕ → Type 0
named_of directive.Broken name = IsUnnamed name → ⊥
named_of directive.Unnamed name = IsUnnamed name
named_of _ name = ⊥

-- the bare word's directive by its name
bare_kind : (b : Directive) (name : List ℕ) (w : DirectiveWord) → named_of b name → name ≡ directive_spelling w → bare_of w ≡ b
bare_kind directive.Broken name word.IfDef u e = absurd (u (inl e))
bare_kind directive.Broken name word.IfNDef u e = absurd (u (inr e))
bare_kind directive.Broken name _ u e = refl
bare_kind directive.Unnamed name word.IfDef u e = refl
bare_kind directive.Unnamed name word.IfNDef u e = refl
bare_kind directive.Unnamed name word.DefaultNetType u e = absurd (other_word word.DefaultNetType name refl e u)
bare_kind directive.Unnamed name word.Define u e = absurd (other_word word.Define name refl e u)
bare_kind directive.Unnamed name word.Else u e = absurd (other_word word.Else name refl e u)
bare_kind directive.Unnamed name word.ElsIf u e = absurd (other_word word.ElsIf name refl e u)
bare_kind directive.Unnamed name word.EndIf u e = absurd (other_word word.EndIf name refl e u)
bare_kind directive.Unnamed name word.ResetAll u e = absurd (other_word word.ResetAll name refl e u)
bare_kind directive.Unnamed name word.TimeScale u e = absurd (other_word word.TimeScale name refl e u)
bare_kind directive.Unnamed name word.Undef u e = absurd (other_word word.Undef name refl e u)
bare_kind _ name w u e = absurd u

none_kind : (b : Directive) (name : List ℕ) → named_of b name → directive_of name ≡ None → directive.Broken ≡ b
none_kind directive.Broken name u e = refl
none_kind directive.Unnamed name u e = absurd (none_named name e u)
none_kind _ name u e = absurd u

bare_is : (b : Directive) (name bytes behind after : List ℕ) → IsBare name bytes behind → named_of b name → bytes ++ behind ≡ 96 ∷ after
    → directive_at after ≡ directive_of_parts (length bytes) b
bare_is b name bytes behind after h u e =
    let q : after ≡ name ++ behind = ap (drop 1) (sym e ∙ ap (λ (xs : List ℕ). xs ++ behind) h.is) in
    let n : 1 + length name ≡ length bytes = omega (arith, ap (λ (xs : List ℕ). length xs) h.is) in
    ap directive_at q ∙ at_split name behind h.named h.ends ∙ go (directive_of name) refl ∙ ap (λ (k : ℕ). directive_of_parts k b) n
  where
    viewed : (w : DirectiveWord) → name ≡ directive_spelling w → View (1 + length name) w behind
        → directive_with (1 + length name) behind (Some w) ≡ directive_of_parts (1 + length name) b
    viewed w k (Full d parts tail t p) =
        let whole : IsWhole d (96 ∷ (directive_spelling w ++ parts)) tail =
        record { word = w; parts = parts; is = refl; ends = subst (Stops class.Name) t h.ends; has = p } in
        let is : bytes ++ behind ≡ (96 ∷ (directive_spelling w ++ parts)) ++ tail =
        ap (λ (xs : List ℕ). xs ++ behind) h.is ∙ ap (λ (xs : List ℕ). 96 ∷ (xs ++ behind)) k
        ∙ ap (λ (xs : List ℕ). 96 ∷ (directive_spelling w ++ xs)) t
        ∙ ap (λ (xs : List ℕ). 96 ∷ xs) (sym (append_assoc (directive_spelling w) parts tail)) in
        absurd (h.lacks d (96 ∷ (directive_spelling w ++ parts)) tail is whole)
    viewed w k (Lacking l) = l ∙ ap (directive_of_parts (1 + length name)) (bare_kind b name w u k)

    go : (o : Option DirectiveWord) → directive_of name ≡ o → directive_with (1 + length name) behind (directive_of name)
        ≡ directive_of_parts (1 + length name) b
    go None r =
        ap (directive_with (1 + length name) behind) r ∙ none_with (1 + length name) behind
        ∙ ap (directive_of_parts (1 + length name)) (none_kind b name u r)
    go (Some w) r = ap (directive_with (1 + length name) behind) r ∙ viewed w (word_is name w r) (view_with (1 + length name) w behind)

record Begins (text : List ℕ) : Type 0 where
  pub after : List ℕ
  pub is : text ≡ 96 ∷ after

whole_begins : (d : Directive) (bytes behind : List ℕ) → IsWhole d bytes behind → Begins (bytes ++ behind)
whole_begins d bytes behind h = record { after = directive_spelling h.word ++ (h.parts ++ behind); is = whole_again d bytes behind h }

bare_begins : (name bytes behind : List ℕ) → IsBare name bytes behind → Begins (bytes ++ behind)
bare_begins name bytes behind h = record { after = name ++ behind; is = ap (λ (xs : List ℕ). xs ++ behind) h.is }

pub record Read (d : Directive) (bytes behind : List ℕ) : Type 0 where
  pub after : List ℕ
  pub is : bytes ++ behind ≡ 96 ∷ after
  pub found : directive_at after ≡ directive_of_parts (length bytes) d
  pub some : 1 ≤ length bytes

read_whole : (d : Directive) (bytes behind : List ℕ) → IsWhole d bytes behind → Read d bytes behind
read_whole d bytes behind h =
    let b = whole_begins d bytes behind h in
    record {
      after = b.after;
      is = b.is;
      found = whole_is d bytes behind b.after h b.is;
      some = omega (arith, ap (λ (xs : List ℕ). length xs) h.is);
    }

read_bare : (d : Directive) (name bytes behind : List ℕ) → IsBare name bytes behind → named_of d name → Read d bytes behind
read_bare d name bytes behind h u =
    let b = bare_begins name bytes behind h in
    record {
      after = b.after;
      is = b.is;
      found = bare_is d name bytes behind b.after h u b.is;
      some = omega (arith, ap (λ (xs : List ℕ). length xs) h.is);
    }

pub read : (d : Directive) (bytes behind : List ℕ) → IsDirective d bytes behind → Read d bytes behind
read directive.Broken bytes behind h = read_bare directive.Broken h.0 bytes behind h.1 h.2
read directive.Unnamed bytes behind h = read_bare directive.Unnamed h.0 bytes behind h.1 h.2
read (directive.TimeScale u p) bytes behind h = read_whole (directive.TimeScale u p) bytes behind h
read (directive.Define name) bytes behind h = read_whole (directive.Define name) bytes behind h
read (directive.Undef name) bytes behind h = read_whole (directive.Undef name) bytes behind h
read (directive.IfDef name) bytes behind h = read_whole (directive.IfDef name) bytes behind h
read (directive.IfNDef name) bytes behind h = read_whole (directive.IfNDef name) bytes behind h
read (directive.ElsIf name) bytes behind h = read_whole (directive.ElsIf name) bytes behind h
read directive.Else bytes behind h = read_whole directive.Else bytes behind h
read directive.EndIf bytes behind h = read_whole directive.EndIf bytes behind h
read directive.ResetAll bytes behind h = read_whole directive.ResetAll bytes behind h
read directive.DefaultNetType bytes behind h = read_whole directive.DefaultNetType bytes behind h

pub directive_some : (d : Directive) (bytes behind : List ℕ) → IsDirective d bytes behind → 1 ≤ length bytes
directive_some d bytes behind h = (read d bytes behind h).some

-- ---- the words of conditionals

of_conditional : (w : DirectiveWord) → IsOfConditional w → is_conditional (Some w) ≡ true
of_conditional word.IfDef h = refl
of_conditional word.IfNDef h = refl
of_conditional word.ElsIf h = refl
of_conditional word.Else h = refl
of_conditional word.EndIf h = refl
of_conditional _ h = absurd h

conditional_of : (w : DirectiveWord) → is_conditional (Some w) ≡ true → IsOfConditional w
conditional_of word.IfDef h = tt
conditional_of word.IfNDef h = tt
conditional_of word.ElsIf h = tt
conditional_of word.Else h = tt
conditional_of word.EndIf h = tt
conditional_of _ h = absurd (false≢true h)

abbrev pub conditional_at : List ℕ → Bool
conditional_at after = is_conditional (directive_of (take (run class.Name after) after))

pub conditional_is : (after : List ℕ) → BeginsConditional (96 ∷ after) → conditional_at after ≡ true
conditional_is after h =
    let q : after ≡ directive_spelling h.0 ++ h.1 = ap (drop 1) h.3 in
    ap conditional_at q
    ∙ ap (λ (xs : List ℕ). is_conditional (directive_of xs)) (front_word (directive_spelling h.0) h.1 (word_all h.0) h.4)
    ∙ ap is_conditional (word_found h.0) ∙ of_conditional h.0 h.2

pub conditional_begins : (after : List ℕ) → conditional_at after ≡ true → BeginsConditional (96 ∷ after)
conditional_begins after t =
    let s = split class.Name after in
    let f : is_conditional (directive_of s.front) ≡ true =
    sym (ap conditional_at s.is ∙ ap (λ (xs : List ℕ). is_conditional (directive_of xs)) (front_word s.front s.rest s.all s.stops))
    ∙ t in
    go s.front s.rest s.is s.stops (directive_of s.front) refl f
  where
    go : (name rest : List ℕ) → after ≡ name ++ rest → Stops class.Name rest → (o : Option DirectiveWord) → directive_of name ≡ o
        → is_conditional (directive_of name) ≡ true → BeginsConditional (96 ∷ after)
    go name rest e s None q f = absurd (false≢true (sym (ap is_conditional q) ∙ f))
    go name rest e s (Some w) q f = (
      w,
      rest,
      conditional_of w (sym (ap is_conditional q) ∙ f),
      ap (λ (xs : List ℕ). 96 ∷ xs) (e ∙ ap (λ (xs : List ℕ). xs ++ rest) (word_is name w q)),
      s,
    )

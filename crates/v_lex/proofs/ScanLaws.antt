-- The whole scan, in what a loop has left.
use Rattle.std.proofs.Common.{◌≡◌, ℕ, zero, suc, ◌+◌, ◌-◌, ◌<◌, ◌≤◌, true, false, cond, leb, List, [], ◌∷◌, ◌++◌, length, get_or, drop}
use Rattle.std.proofs.Common.{Option, Some, None, unwrap_or, ap, ◌∙◌, sym, refl, ⊎_elim, append_assoc, arith}
use Rattle.std.proofs.lemmas.List.{drop_more, drop_all, drop-drop, length-drop, append-nil}
use Rattle.std.proofs.lemmas.Bool.{cases_Bool, leb-true, leb-false, le-leb, lt-leb}
use Rattle.v_syntax.specs.declared.token.Token.{Token}
use Rattle.v_lex.specs.declared.directive.BrokenRule.{BrokenRule}
use Rattle.v_lex.specs.declared.directive.Conditional.{Conditional}
use Rattle.v_lex.specs.declared.directive.Content.{Content}
use Rattle.v_lex.specs.declared.directive.Content.TheVariants as content
use Rattle.v_lex.specs.declared.directive.Piece.{Piece}
use Rattle.v_lex.specs.declared.directive.LexRule.{LexRule}
use Rattle.v_lex.specs.declared.directive.LexRule.TheVariants as rule
use Rattle.v_lex.specs.Pieces.{piece_at}
use Rattle.v_lex.specs.Lexing.{State, Scan, is_taken, is_allowed, broken_at, earlier, earliest, left_open, with_token, with_fault}
use Rattle.v_lex.specs.Lexing.{with_content, after_content, start, nanosecond, is_module, with_unit, at_modules, module_count}
use Rattle.v_lex.specs.Scan.{scan_from, scan_of, faults_of, lexed}
use Rattle.v_lex.specs.Found.{Sum, nothing, found_with, end_of}

-- ---- the first of the broken rules

three : (a b c : BrokenRule) → earlier (cond (leb a.place b.place) (Some a) (Some b)) (Some c)
    ≡ earlier (Some a) (cond (leb b.place c.place) (Some b) (Some c))
three a b c =
    ⊎_elim
    (λ (h : leb a.place b.place ≡ true). ⊎_elim
    (λ (k : leb b.place c.place ≡ true).
    let ab = leb-true a.place b.place h in
    let bc = leb-true b.place c.place k in
    let l : leb a.place c.place ≡ true = le-leb a.place c.place (omega arith) in
    rw (h, k, l, h) refl)
    (λ (k : leb b.place c.place ≡ false). rw (h, k) refl)
    (cases_Bool (leb b.place c.place)))
    (λ (h : leb a.place b.place ≡ false). ⊎_elim
    (λ (k : leb b.place c.place ≡ true). rw (h, k, h) refl)
    (λ (k : leb b.place c.place ≡ false).
    let ab = leb-false a.place b.place h in
    let bc = leb-false b.place c.place k in
    let l : leb a.place c.place ≡ false = lt-leb a.place c.place (omega arith) in
    rw (h, k, l) refl)
    (cases_Bool (leb b.place c.place)))
    (cases_Bool (leb a.place b.place))

two : (a b : BrokenRule) → earlier (cond (leb a.place b.place) (Some a) (Some b)) None ≡ cond (leb a.place b.place) (Some a) (Some b)
two a b =
    elim (leb a.place b.place) as (λ t. earlier (cond t (Some a) (Some b)) None ≡ cond t (Some a) (Some b)) [ true ↦ refl | false ↦ refl ]

pub earlier_assoc : (f g h : Option BrokenRule) → earlier (earlier f g) h ≡ earlier f (earlier g h)
earlier_assoc None g h = refl
earlier_assoc (Some a) None h = refl
earlier_assoc (Some a) (Some b) None = two a b
earlier_assoc (Some a) (Some b) (Some c) = three a b c

not_none : (f : BrokenRule) (o : Option BrokenRule) → earlier (Some f) o ≡ None → ⊥
not_none f None e = cc
not_none f (Some g) e = ⊎_elim
    (λ (h : leb f.place g.place ≡ true). let k : Some f ≡ None = rw h at e in cc)
    (λ (h : leb f.place g.place ≡ false). let k : Some g ≡ None = rw h at e in cc)
    (cases_Bool (leb f.place g.place))

pub earliest_none : (fs : List BrokenRule) → earliest fs ≡ None → fs ≡ []
unfolding earliest
earliest_none [] e = refl
earliest_none (f ∷ fs) e = absurd (not_none f (earliest fs) e)

pub open_more : (cs : List Conditional) (i : ℕ) (d : Conditional) (first : Option BrokenRule) → i < length cs
    → earlier first (earliest (left_open (drop i cs))) ≡ earliest (left_open cs)
    → earlier (earlier first (Some (broken_at rule.Directive (get_or cs i d).place))) (earliest (left_open (drop (i + 1) cs)))
    ≡ earliest (left_open cs)
unfolding earliest left_open
open_more cs i d first h e =
    let f = broken_at rule.Directive (get_or cs i d).place in
    earlier_assoc first (Some f) (earliest (left_open (drop (i + 1) cs)))
    ∙ sym (ap (λ xs. earlier first (earliest (left_open xs))) (drop_more cs i d h)) ∙ e

pub open_all : (cs : List Conditional) (i : ℕ) (first : Option BrokenRule) → length cs ≤ i
    → earlier first (earliest (left_open (drop i cs))) ≡ earliest (left_open cs) → first ≡ earliest (left_open cs)
unfolding earliest left_open
open_all cs i first h e = sym (with_none first) ∙ sym (ap (λ xs. earlier first (earliest (left_open xs))) (drop_all i cs h)) ∙ e
  where
    with_none : (f : Option BrokenRule) → earlier f None ≡ f
    with_none None = refl
    with_none (Some g) = refl

pub earlier_nothing : (f : Option BrokenRule) → earlier f None ≡ f
earlier_nothing None = refl
earlier_nothing (Some g) = refl

-- ---- what was found before a place

pub found_token : (f : Sum) (t : Token) (place unit : ℕ) (units : List ℕ) (scan : Scan)
    → ((more : List ℕ) → units ++ more ≡ f.units ++ with_unit t unit more)
    → found_with (record { tokens = f.tokens ++ t ∷ []; places = f.places ++ place ∷ []; units = units; first = f.first }) scan
    ≡ found_with f (with_token unit place t scan)
unfolding found_with at_modules
found_token f t place unit units scan h =
    rw (append_assoc f.tokens (t ∷ []) scan.tokens, append_assoc f.places (place ∷ []) scan.places, h (at_modules scan.tokens scan.units)) refl

-- the unit at a token, behind those before it
pub unit_added : (before after more : List ℕ) (t : Token) (unit : ℕ) → is_module t ≡ true → after ≡ before ++ unit ∷ []
    → after ++ more ≡ before ++ with_unit t unit more
unit_added before after more t unit h e = rw (h, e) (append_assoc before (unit ∷ []) more)

pub none_added : (before more : List ℕ) (t : Token) (unit : ℕ) → is_module t ≡ false → before ++ more ≡ before ++ with_unit t unit more
none_added before more t unit h = rw h refl

pub found_fault : (f : Sum) (r : LexRule) (place : ℕ) (scan : Scan)
    → found_with (record { tokens = f.tokens; places = f.places; units = f.units; first = earlier f.first (Some (broken_at r place)) }) scan
    ≡ found_with f (with_fault place r scan)
unfolding found_with earliest
found_fault f r place scan = rw (earlier_assoc f.first (Some (broken_at r place)) (earliest scan.faults)) refl

-- ---- one piece

jump : (s : State) (p k : ℕ) (text : List ℕ) → scan_from s p k text ≡ scan_from s (p + k) 0 (drop k text)
unfolding scan_from
jump s p zero text = let e : p + 0 ≡ p = omega arith in rw e refl
jump s p (suc k) [] = refl
jump s p (suc k) (b ∷ bs) = let e : p + suc k ≡ p + 1 + k = omega arith in rw e (jump s (p + 1) k bs)

with_content_last : (s : State) (p : ℕ) (c : Content) (scan : Scan) → (with_content s p c scan).last ≡ scan.last
unfolding with_content
with_content_last s p content.Gap scan = refl
with_content_last s p (content.Token t) scan = refl
with_content_last s p (content.Directive d) scan =
    elim (is_allowed s d) as (λ t. (cond t scan (with_fault p rule.Directive scan)).last ≡ scan.last) [ true ↦ refl | false ↦ refl ]
with_content_last s p (content.Broken r) scan = refl

drop_suc : (n b : ℕ) (bs : List ℕ) → 1 ≤ n → drop (n - 1) bs ≡ drop n (b ∷ bs)
drop_suc zero b bs h = absurd (omega arith)
drop_suc (suc n) b bs h = let e : suc n - 1 ≡ n = omega arith in rw e refl

pub scan_step : (s : State) (p : ℕ) (text : List ℕ) (q : Piece) → 0 < length text → q ≡ piece_at (is_taken s.conditionals) text
    → 1 ≤ q.size
    → scan_from s p 0 text ≡ with_content s p q.content (scan_from (after_content s p q.content) (p + q.size) 0 (drop q.size text))
unfolding scan_from
scan_step s p [] q h e k = absurd (omega arith)
scan_step s p (b ∷ bs) q h e k =
    let j : p + 1 + (q.size - 1) ≡ p + q.size = omega arith in
    let f = jump (after_content s p q.content) (p + 1) (q.size - 1) bs in
    rw (← e)
    (ap (with_content s p q.content) (f ∙ ap (λ n. scan_from (after_content s p q.content) n 0 (drop (q.size - 1) bs)) j
    ∙ ap (scan_from (after_content s p q.content) (p + q.size) 0) (drop_suc q.size b bs k)))

left : (p : ℕ) (text : List ℕ) → p < length text → 0 < length (drop p text)
left p text h = omega (arith, length-drop p text)

scan_next : (s t : State) (p : ℕ) (text : List ℕ) (q : Piece) → p < length text → q ≡ piece_at (is_taken s.conditionals) (drop p text)
    → 1 ≤ q.size → t ≡ after_content s p q.content
    → scan_from s p 0 (drop p text) ≡ with_content s p q.content (scan_from t (p + q.size) 0 (drop (p + q.size) text))
scan_next s t p text q h e k u =
    scan_step s p (drop p text) q (left p text h) e k
    ∙ ap (λ v. with_content s p q.content (scan_from v (p + q.size) 0 (drop q.size (drop p text)))) (sym u)
    ∙ ap (λ xs. with_content s p q.content (scan_from t (p + q.size) 0 xs)) (drop-drop q.size p text)

pub found_next : (s t : State) (f g : Sum) (p : ℕ) (text : List ℕ) (q : Piece) (whole : Sum) → p < length text
    → q ≡ piece_at (is_taken s.conditionals) (drop p text) → 1 ≤ q.size → t ≡ after_content s p q.content
    → ((scan : Scan) → found_with g scan ≡ found_with f (with_content s p q.content scan))
    → found_with f (scan_from s p 0 (drop p text)) ≡ whole → found_with g (scan_from t (p + q.size) 0 (drop (p + q.size) text))
    ≡ whole
found_next s t f g p text q whole h e k u v w =
    v (scan_from t (p + q.size) 0 (drop (p + q.size) text)) ∙ sym (ap (found_with f) (scan_next s t p text q h e k u)) ∙ w

pub last_next : (s t : State) (p : ℕ) (text : List ℕ) (q : Piece) (whole : State) → p < length text
    → q ≡ piece_at (is_taken s.conditionals) (drop p text) → 1 ≤ q.size → t ≡ after_content s p q.content
    → (scan_from s p 0 (drop p text)).last ≡ whole → (scan_from t (p + q.size) 0 (drop (p + q.size) text)).last ≡ whole
last_next s t p text q whole h e k u w =
    sym (with_content_last s p q.content (scan_from t (p + q.size) 0 (drop (p + q.size) text)))
    ∙ sym (ap (λ scan. scan.last) (scan_next s t p text q h e k u)) ∙ w

pub scan_end : (s : State) (p : ℕ) (text : List ℕ) → length text ≤ p → scan_from s p 0 (drop p text) ≡ end_of s
unfolding scan_from
scan_end s p text h = ap (scan_from s p 0) (drop_all p text h)

-- ---- each token has a place and a unit

abbrev IsPaired : Scan → Type 0
IsPaired scan = (length scan.tokens ≡ length scan.places) × (length scan.tokens ≡ length scan.units)

paired_content : (s : State) (p : ℕ) (c : Content) (scan : Scan) → IsPaired scan → IsPaired (with_content s p c scan)
unfolding with_content
paired_content s p content.Gap scan h = h
paired_content s p (content.Token t) scan h = (ap suc h.0, ap suc h.1)
paired_content s p (content.Directive d) scan h =
    elim (is_allowed s d) as (λ t. IsPaired (cond t scan (with_fault p rule.Directive scan))) [ true ↦ h | false ↦ h ]
paired_content s p (content.Broken r) scan h = h

pub paired : (s : State) (p k : ℕ) (text : List ℕ) → IsPaired (scan_from s p k text)
unfolding scan_from
paired s p zero [] = (refl, refl)
paired s p (suc k) [] = (refl, refl)
paired s p (suc k) (b ∷ bs) = paired s (p + 1) k bs
paired s p zero (b ∷ bs) =
    let q = piece_at (is_taken s.conditionals) (b ∷ bs) in
    paired_content s p q.content (scan_from (after_content s p q.content) (p + 1) (q.size - 1) bs)
    (paired (after_content s p q.content) (p + 1) (q.size - 1) bs)

-- ---- each token has a byte

few_content : (s : State) (p n : ℕ) (c : Content) (scan : Scan) → length scan.tokens ≤ n → length (with_content s p c scan).tokens ≤ suc n
unfolding with_content
few_content s p n content.Gap scan h = omega arith
few_content s p n (content.Token t) scan h = omega arith
few_content s p n (content.Directive d) scan h =
    elim (is_allowed s d) as (λ t. length (cond t scan (with_fault p rule.Directive scan)).tokens ≤ suc n)
    [ true ↦ omega arith | false ↦ omega arith ]
few_content s p n (content.Broken r) scan h = omega arith

pub few_tokens : (s : State) (p k : ℕ) (text : List ℕ) → length (scan_from s p k text).tokens ≤ length text
unfolding scan_from
few_tokens s p zero [] = omega arith
few_tokens s p (suc k) [] = omega arith
few_tokens s p (suc k) (b ∷ bs) = let h = few_tokens s (p + 1) k bs in omega arith
few_tokens s p zero (b ∷ bs) =
    let q = piece_at (is_taken s.conditionals) (b ∷ bs) in
    few_content s p (length bs) q.content (scan_from (after_content s p q.content) (p + 1) (q.size - 1) bs)
    (few_tokens (after_content s p q.content) (p + 1) (q.size - 1) bs)

-- ---- the answer

pub is_first : (f : Sum) (s : State) (text : List ℕ) → found_with f (end_of s) ≡ found_with nothing (scan_of text)
    → earlier f.first (earliest (left_open s.conditionals)) ≡ earliest (faults_of text)
unfolding found_with scan_from faults_of
is_first f s text h = ap (λ (x : Sum). x.first) h

pub has_places : (f : Sum) (s : State) (text : List ℕ) → found_with f (end_of s) ≡ found_with nothing (scan_of text)
    → length f.tokens ≡ length f.places
unfolding found_with scan_from scan_of
has_places f s text h =
    let t : f.tokens ≡ (scan_of text).tokens = sym (append-nil f.tokens) ∙ ap (λ (x : Sum). x.tokens) h in
    let p : f.places ≡ (scan_of text).places = sym (append-nil f.places) ∙ ap (λ (x : Sum). x.places) h in
    ap length t ∙ (paired start 0 0 text).0 ∙ sym (ap length p)

-- each `module` has a unit
one_each : (ts : List Token) (units : List ℕ) → length ts ≡ length units → length (at_modules ts units) ≡ module_count ts
unfolding at_modules module_count
one_each [] units h = refl
one_each (t ∷ ts) [] h = absurd (omega arith)
one_each (t ∷ ts) (unit ∷ units) h =
    let e : length ts ≡ length units = omega arith in
    let k = one_each ts units e in
    elim (is_module t) as (λ b. length (cond b (unit ∷ at_modules ts units) (at_modules ts units)) ≡ cond b (suc (module_count ts)) (module_count ts))
    [ true ↦ ap suc k | false ↦ k ]

pub has_units : (f : Sum) (s : State) (text : List ℕ) → found_with f (end_of s) ≡ found_with nothing (scan_of text)
    → length f.units ≡ module_count f.tokens
unfolding found_with scan_from scan_of at_modules
has_units f s text h =
    let scan = scan_of text in
    let t : f.tokens ≡ scan.tokens = sym (append-nil f.tokens) ∙ ap (λ (x : Sum). x.tokens) h in
    let u : f.units ≡ at_modules scan.tokens scan.units = sym (append-nil f.units) ∙ ap (λ (x : Sum). x.units) h in
    ap length u ∙ one_each scan.tokens scan.units (paired start 0 0 text).1 ∙ sym (ap module_count t)

pub has_few : (f : Sum) (s : State) (text : List ℕ) → found_with f (end_of s) ≡ found_with nothing (scan_of text)
    → length f.tokens ≤ length text
unfolding found_with scan_from scan_of
has_few f s text h =
    let t : f.tokens ≡ (scan_of text).tokens = sym (append-nil f.tokens) ∙ ap (λ (x : Sum). x.tokens) h in
    let l : length f.tokens ≡ length (scan_of text).tokens = ap length t in
    omega (arith, l, few_tokens start 0 0 text)

pub is_lexed : (f : Sum) (s : State) (text : List ℕ) → found_with f (end_of s) ≡ found_with nothing (scan_of text)
    → s ≡ (scan_of text).last
    → record { tokens = f.tokens; places = f.places ++ length text ∷ []; units = f.units; unit = s.unit; step = unwrap_or s.step nanosecond }
    ≡ lexed text
unfolding found_with scan_from lexed at_modules
is_lexed f s text h e =
    let t : f.tokens ≡ (scan_of text).tokens = sym (append-nil f.tokens) ∙ ap (λ (x : Sum). x.tokens) h in
    let p : f.places ≡ (scan_of text).places = sym (append-nil f.places) ∙ ap (λ (x : Sum). x.places) h in
    let u : f.units ≡ at_modules (scan_of text).tokens (scan_of text).units = sym (append-nil f.units) ∙ ap (λ (x : Sum). x.units) h in
    rw (t, p, u, e) refl

pub last_end : (s : State) (p : ℕ) (text : List ℕ) (whole : State) → length text ≤ p → (scan_from s p 0 (drop p text)).last ≡ whole
    → s ≡ whole
unfolding scan_from
last_end s p text whole h e = sym (ap (λ xs. (scan_from s p 0 xs).last) (drop_all p text h)) ∙ e

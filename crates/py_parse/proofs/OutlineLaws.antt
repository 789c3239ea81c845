-- The laws of reading lines.
use Rattle.std.proofs.Common.{◌≡◌, inl, inr, ℕ, ◌<◌, ◌≤◌, Bool, true, false, List, [], ◌∷◌, ◌++◌, Option, Some, None, Result, Ok, Err, refl, sym, ap, ◌∙◌, subst, append_assoc, arith, if◌then◌else◌}
use Rattle.std.proofs.lemmas.List.{append-nil}
use Rattle.std.specs.Prelude.{nat_le}
use Rattle.py_syntax.specs.Line.{Line}
use Rattle.py_syntax.specs.Outline.{Content, Placed, Refusal, bad_line, no_block, too_deep, place, depth, has_block, with_last, word_of, Says, content_height, IsWithinLimits, SpellsOutline, AreWithinLimits, HasNoForm, HasForm, IsOverLimits, Breaks, Refused}
use Rattle.py_syntax.specs.declared.outline.OpenBlock.{OpenBlock}
use Rattle.py_expression.proofs.PhraseLemmas.Facts.{some_same}
use Rattle.py_parse.specs.Reading.{Said, says, high, nothing, said_of, Outcome, stands, refused, outcome_in, outcome_by, outcome, placed_line, onward, outline_onto}
use Rattle.py_parse.proofs.Contents.{said_says, said_high, said_nothing, said_again, content_one}

-- what an outcome says of a line
abbrev IsRight : List OpenBlock → Line → List Line → Outcome → Type 0
IsRight bs l ls (stands cs c) = HasForm bs l cs c × (has_block l ls ≡ true) × IsWithinLimits (depth cs) c
IsRight bs l ls (refused r) = Breaks bs l ls r

within_of : (n : ℕ) → nat_le n 32 ≡ true → n ≤ 32
within_of n e = grind arith

over_of : (n : ℕ) → nat_le n 32 ≡ false → 32 < n
over_of n e = grind arith

outcome_right : (bs : List OpenBlock) (l : Line) (ls : List Line) → IsRight bs l ls (outcome bs l ls)
unfolding outcome Breaks
outcome_right bs l ls = by (place l bs) refl
  where
    no_place : place l bs ≡ None → HasNoForm bs l
    no_place q cs c p s = absurd (differ (sym q ∙ p))
      where
        differ : None ≡ Some cs → ⊥
        differ e = cc

    no_form : (cs : List OpenBlock) → place l bs ≡ Some cs → said_of (depth cs) l ≡ nothing → HasNoForm bs l
    no_form cs q r ds c p s = let e : cs ≡ ds = some_same (sym q ∙ p) in
        let P : List OpenBlock → Type 0 = λ x. Says (depth x) c l in said_nothing (depth cs) l c r (subst P (sym e) s)

    fitting : (cs : List OpenBlock) (c : Content) → HasForm bs l cs c → content_height c ≤ 64 → has_block l ls ≡ true → (b : Bool) → nat_le (depth cs) 32 ≡ b
        → IsRight bs l ls (if b then stands cs c else refused (too_deep l.number))
    fitting cs c f k hb true q = (f, hb, record { blocks = within_of (depth cs) q; height = k })
    fitting cs c f k hb false q = (refl, cs, c, f, hb, inl (over_of (depth cs) q))

    in_place : (cs : List OpenBlock) → place l bs ≡ Some cs → (s : Said) → said_of (depth cs) l ≡ s → (b : Bool) → has_block l ls ≡ b → IsRight bs l ls (outcome_in l cs s b)
    in_place cs q nothing r b hb = (refl, no_form cs q r)
    in_place cs q high r true hb = let (c, s, k) = said_high (depth cs) l r in (refl, cs, c, (q, s), hb, inr k)
    in_place cs q high r false hb = let (c, s, k) = said_high (depth cs) l r in (refl, cs, c, (q, s), hb)
    in_place cs q (says c) r true hb = let k = said_says (depth cs) l c r in fitting cs c (q, k.0) k.1 hb (nat_le (depth cs) 32) refl
    in_place cs q (says c) r false hb = let k = said_says (depth cs) l c r in (refl, cs, c, (q, k.0), hb)

    by : (o : Option (List OpenBlock)) → place l bs ≡ o → IsRight bs l ls (outcome_by l ls o)
    by None q = (refl, no_place q)
    by (Some cs) q = in_place cs q (said_of (depth cs) l) refl (has_block l ls) refl

right_at : (bs : List OpenBlock) (l : Line) (ls : List Line) (out : Outcome) → outcome bs l ls ≡ out → IsRight bs l ls out
right_at bs l ls out e = let P : Outcome → Type 0 = λ x. IsRight bs l ls x in subst P e (outcome_right bs l ls)

at_most : (n : ℕ) → n ≤ 32 → nat_le n 32 ≡ true
at_most n h = grind arith

pub outcome_again : (bs cs : List OpenBlock) (c : Content) (l : Line) (ls : List Line) → HasForm bs l cs c → has_block l ls ≡ true → IsWithinLimits (depth cs) c
    → outcome bs l ls ≡ stands cs c
unfolding outcome
outcome_again bs cs c l ls f hb w = rw (f.0, said_again (depth cs) l c f.1 w.height, hb, at_most (depth cs) w.blocks) refl

-- Of the rules only one is the first that a line breaks, and a line that stands breaks none.

true_false : {b : Bool} → b ≡ true → b ≡ false → ⊥
true_false {b} x y = differ (sym x ∙ y)
  where
    differ : true ≡ false → ⊥
    differ e = cc

breaks_one : (bs : List OpenBlock) (l : Line) (ls : List Line) (r s : Refusal) → Breaks bs l ls r → Breaks bs l ls s → r ≡ s
unfolding Breaks
breaks_one bs l ls (bad_line n) (bad_line m) a b = ap (λ k. bad_line k) (a.0 ∙ sym b.0)
breaks_one bs l ls (bad_line n) (no_block m) a b = absurd (a.1 b.1 b.2 b.3.0 b.3.1)
breaks_one bs l ls (bad_line n) (too_deep m) a b = absurd (a.1 b.1 b.2 b.3.0 b.3.1)
breaks_one bs l ls (no_block n) (bad_line m) a b = absurd (b.1 a.1 a.2 a.3.0 a.3.1)
breaks_one bs l ls (no_block n) (no_block m) a b = ap (λ k. no_block k) (a.0 ∙ sym b.0)
breaks_one bs l ls (no_block n) (too_deep m) a b = absurd (true_false b.4 a.4)
breaks_one bs l ls (too_deep n) (bad_line m) a b = absurd (b.1 a.1 a.2 a.3.0 a.3.1)
breaks_one bs l ls (too_deep n) (no_block m) a b = absurd (true_false a.4 b.4)
breaks_one bs l ls (too_deep n) (too_deep m) a b = ap (λ k. too_deep k) (a.0 ∙ sym b.0)

over_within : (d : ℕ) (c : Content) → IsWithinLimits d c → IsOverLimits d c → ⊥
over_within d c w (inl h) = omega (arith, w.blocks, h)
over_within d c w (inr h) = omega (arith, w.height, h)

-- in its place a line says one thing
same_place : (bs cs ds : List OpenBlock) (l : Line) (c e : Content) → HasForm bs l cs c → HasForm bs l ds e → (cs ≡ ds) × (c ≡ e)
same_place bs cs ds l c e f g =
    let q : cs ≡ ds = some_same (sym f.0 ∙ g.0) in
    let P : List OpenBlock → Type 0 = λ x. Says (depth x) e l in (q, content_one (depth cs) l c e f.1 (subst P (sym q) g.1))

stands_unbroken : (bs cs : List OpenBlock) (c : Content) (l : Line) (ls : List Line) (r : Refusal) → HasForm bs l cs c → has_block l ls ≡ true → IsWithinLimits (depth cs) c
    → Breaks bs l ls r → ⊥
unfolding Breaks
stands_unbroken bs cs c l ls (bad_line n) f hb w b = b.1 cs c f.0 f.1
stands_unbroken bs cs c l ls (no_block n) f hb w b = true_false hb b.4
stands_unbroken bs cs c l ls (too_deep n) f hb w (x, ds, e, g, hb2, o) =
    let k = same_place bs cs ds l c e f g in
    let P : List OpenBlock → Type 0 = λ y. IsOverLimits (depth y) c in let Q : Content → Type 0 = λ y. IsOverLimits (depth ds) y in
    over_within (depth cs) c w (subst P (sym k.0) (subst Q (sym k.1) o))

outcome_broken : (bs : List OpenBlock) (l : Line) (ls : List Line) (r : Refusal) → Breaks bs l ls r → outcome bs l ls ≡ refused r
outcome_broken bs l ls r b = by (outcome bs l ls) refl
  where
    by : (out : Outcome) → outcome bs l ls ≡ out → out ≡ refused r
    by (stands cs c) q = let k = right_at bs l ls (stands cs c) q in absurd (stands_unbroken bs cs c l ls r k.0 k.1 k.2 b)
    by (refused s) q = ap (λ (x : Refusal). refused x) (breaks_one bs l ls s r (right_at bs l ls (refused s) q) b)

-- All lines.

pub ok_same : (ps qs : List Placed) → ◌≡◌ {A = Result (List Placed) Refusal} (Ok ps) (Ok qs) → ps ≡ qs
ok_same ps qs e = ap (λ (x : Result (List Placed) Refusal). elim x as (λ _. List Placed) [ Ok y ↦ y | Err r ↦ ps ]) e

pub err_same : (r s : Refusal) → ◌≡◌ {A = Result (List Placed) Refusal} (Err r) (Err s) → r ≡ s
err_same r s e = ap (λ (x : Result (List Placed) Refusal). elim x as (λ _. Refusal) [ Ok y ↦ r | Err t ↦ t ]) e

pub outline_sound : (ls : List Line) (ps qs : List Placed) (bs : List OpenBlock) → outline_onto ps bs ls ≡ Ok qs
    → (rs : List Placed) × (qs ≡ ps ++ rs) × SpellsOutline bs rs ls × AreWithinLimits rs
unfolding outline_onto SpellsOutline
outline_sound [] ps qs bs e = ([], sym (ok_same ps qs e) ∙ sym (append-nil ps), tt, tt)
outline_sound (l ∷ ls) ps qs bs e = by (λ us cs h. outline_sound ls us qs cs h) (outcome bs l ls) refl e
  where
    by : ((us : List Placed) (cs : List OpenBlock) → outline_onto us cs ls ≡ Ok qs → (rs : List Placed) × (qs ≡ us ++ rs) × SpellsOutline cs rs ls × AreWithinLimits rs)
        → (out : Outcome) → outcome bs l ls ≡ out → onward (λ us cs. outline_onto us cs ls) ps l out ≡ Ok qs
        → (rs : List Placed) × (qs ≡ ps ++ rs) × SpellsOutline bs rs (l ∷ ls) × AreWithinLimits rs
    by more (refused r) q h = cc
    by more (stands cs c) q h =
        let k = right_at bs l ls (stands cs c) q in
        let (rs, a, b, w) = more (ps ++ (placed_line l cs c ∷ [])) (with_last (word_of l.tokens) cs) h in
        (placed_line l cs c ∷ rs, a ∙ append_assoc ps (placed_line l cs c ∷ []) rs, (cs, k.0.0, refl, refl, k.0.1, k.1, b), (k.2, w))

pub outline_refused : (ls : List Line) (ps : List Placed) (bs : List OpenBlock) (r : Refusal) → outline_onto ps bs ls ≡ Err r → Refused bs ls r
unfolding outline_onto Refused
outline_refused [] ps bs r e = cc
outline_refused (l ∷ ls) ps bs r e = by (λ us cs h. outline_refused ls us cs r h) (outcome bs l ls) refl e
  where
    by : ((us : List Placed) (cs : List OpenBlock) → outline_onto us cs ls ≡ Err r → Refused cs ls r)
        → (out : Outcome) → outcome bs l ls ≡ out → onward (λ us cs. outline_onto us cs ls) ps l out ≡ Err r → Refused bs (l ∷ ls) r
    by more (refused s) q h = let P : Refusal → Type 0 = λ x. Breaks bs l ls x in inl (subst P (err_same s r h) (right_at bs l ls (refused s) q))
    by more (stands cs c) q h =
        let k = right_at bs l ls (stands cs c) q in
        inr (cs, c, k.0, k.1, k.2, more (ps ++ (placed_line l cs c ∷ [])) (with_last (word_of l.tokens) cs) h)

pub outline_again : (ls : List Line) (ps rs : List Placed) (bs : List OpenBlock) → SpellsOutline bs rs ls → AreWithinLimits rs → outline_onto ps bs ls ≡ Ok (ps ++ rs)
unfolding outline_onto SpellsOutline
outline_again [] ps [] bs s w = ap (λ (x : List Placed). Ok x) (sym (append-nil ps))
outline_again [] ps (p ∷ rs) bs s w = absurd s
outline_again (l ∷ ls) ps [] bs s w = absurd s
outline_again (l ∷ ls) ps (p ∷ rs) bs (cs, q, ed, en, sy, hb, more) w =
    let P : ℕ → Type 0 = λ d. IsWithinLimits d p.content in
    let one : placed_line l cs p.content ≡ p = ap (λ d. record { depth = d; number = l.number; content = p.content }) (sym ed) ∙ ap (λ n. record { depth = p.depth; number = n; content = p.content }) (sym en) in
    rw (outcome_again bs cs p.content l ls (q, sy) hb (subst P ed w.0), one)
    (outline_again ls (ps ++ (p ∷ [])) rs (with_last (word_of l.tokens) cs) more w.1 ∙ ap (λ (x : List Placed). Ok x) (append_assoc ps (p ∷ []) rs))

pub outline_refused_again : (ls : List Line) (ps : List Placed) (bs : List OpenBlock) (r : Refusal) → Refused bs ls r → outline_onto ps bs ls ≡ Err r
unfolding outline_onto Refused
outline_refused_again [] ps bs r h = absurd h
outline_refused_again (l ∷ ls) ps bs r (inl b) = rw (outcome_broken bs l ls r b) refl
outline_refused_again (l ∷ ls) ps bs r (inr (cs, c, f, hb, w, more)) =
    rw (outcome_again bs cs c l ls f hb w) (outline_refused_again ls (ps ++ (placed_line l cs c ∷ [])) (with_last (word_of l.tokens) cs) r more)

placed_same : (p q : Placed) → p.depth ≡ q.depth → p.number ≡ q.number → p.content ≡ q.content → p ≡ q
placed_same p q a b c =
    ap (λ d. record { depth = d; number = p.number; content = p.content }) a ∙ ap (λ n. record { depth = q.depth; number = n; content = p.content }) b
    ∙ ap (λ x. record { depth = q.depth; number = q.number; content = x }) c

-- lines stand in their places in one way alone
pub one_outline : (bs : List OpenBlock) (ls : List Line) (ps qs : List Placed) → SpellsOutline bs ps ls → SpellsOutline bs qs ls → ps ≡ qs
unfolding SpellsOutline
one_outline bs [] [] [] a b = refl
one_outline bs [] [] (q ∷ qs) a b = absurd b
one_outline bs [] (p ∷ ps) qs a b = absurd a
one_outline bs (l ∷ ls) [] qs a b = absurd a
one_outline bs (l ∷ ls) (p ∷ ps) [] a b = absurd b
one_outline bs (l ∷ ls) (p ∷ ps) (q ∷ qs) (cs, f, ed, en, s, hb, more) (ds, g, fd, fn, t, hc, others) =
    let k = same_place bs cs ds l p.content q.content (f, s) (g, t) in
    let P : List OpenBlock → Type 0 = λ x. SpellsOutline (with_last (word_of l.tokens) x) qs ls in
    ap (λ x. x ∷ ps) (placed_same p q (ed ∙ ap depth k.0 ∙ sym fd) (en ∙ sym fn) k.1)
    ∙ ap (λ xs. q ∷ xs) (one_outline (with_last (word_of l.tokens) cs) ls ps qs more (subst P (sym k.0) others))

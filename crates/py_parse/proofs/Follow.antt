-- The lines of a text that stand in their places have the shape of lines.
use Rattle.std.proofs.Common.{◌≡◌, ℕ, zero, suc, ◌<◌, ◌≤◌, ltb, eqb, Bool, true, false, List, [], ◌∷◌, length, Option, Some, None, refl, arith, ◌⊎◌, inl, inr}
use Rattle.std.proofs.lemmas.Bool.{cases_Bool}
use Rattle.py_syntax.specs.Line.{Line}
use Rattle.py_syntax.specs.declared.keyword.Keyword.{Keyword}
use Rattle.py_syntax.specs.declared.outline.OpenBlock.{OpenBlock}
use Rattle.py_syntax.specs.Outline.{Content, Docstring, InModule, InBody, Placed, Says, SpellsOutline, at_start, place, place_in, may_stand, may_follow, enter, exact, within, depth, last_word, with_last, word_of, is_header}
use Rattle.py_parse.proofs.Shape.{heads, MayStand, MayFollow}
use Rattle.py_parse.proofs.LineWords.{says_heads}

no_head : {X : Type 0} → false ≡ true → X
no_head e = absurd (let f : false ≡ true = e in cc)

-- The blocks that are open at a line: at most one more, and that behind a header alone.
record Entered (bs cs : List OpenBlock) : Type 0 where
  some : 1 ≤ length cs
  most : length cs ≤ suc (length bs)
  deeper : length bs < length cs → is_header (last_word bs) ≡ true

none_some : {X : Type 0} (cs : List OpenBlock) → None ≡ Some cs → X
none_some cs e = absurd (let f : None ≡ Some cs = e in cc)

some_same : (xs cs : List OpenBlock) → Some xs ≡ Some cs → xs ≡ cs
some_same xs cs e = cc

exact_is : (n : ℕ) (xs cs : List OpenBlock) → exact n xs ≡ Some cs → (xs ≡ cs) × (1 ≤ length cs)
exact_is n [] cs e = none_some cs e
exact_is n (b ∷ xs) cs e = go (cases_Bool (eqb b.indentation n))
  where
    go : (eqb b.indentation n ≡ true) ⊎ (eqb b.indentation n ≡ false) → ((b ∷ xs) ≡ cs) × (1 ≤ length cs)
    go (inl h) = let k : (b ∷ xs) ≡ cs = some_same (b ∷ xs) cs (rw h at e) in (k, rw (← k) (omega arith))
    go (inr h) = none_some cs (rw h at e)

fewer_by : (n : ℕ) (b : OpenBlock) (bs : List OpenBlock) → length (within n bs) ≤ length bs → length (within n (b ∷ bs)) ≤ length (b ∷ bs)
fewer_by n b bs ih = go (cases_Bool (ltb n b.indentation))
  where
    go : (ltb n b.indentation ≡ true) ⊎ (ltb n b.indentation ≡ false) → length (within n (b ∷ bs)) ≤ length (b ∷ bs)
    go (inl h) = rw h (omega (arith, ih))
    go (inr h) = rw h (omega arith)

within_fewer : (n : ℕ) (bs : List OpenBlock) → length (within n bs) ≤ length bs
within_fewer n [] = omega arith
within_fewer n (b ∷ bs) = fewer_by n b bs (within_fewer n bs)

entered : (n : ℕ) (bs cs : List OpenBlock) → enter n bs ≡ Some cs → Entered bs cs
entered n [] cs e = none_some cs e
entered n (b ∷ bs) cs e = go (cases_Bool (ltb b.indentation n)) (cases_Bool (is_header b.last))
  where
    other : (xs : List OpenBlock) → length xs ≤ length (b ∷ bs) → exact n xs ≡ Some cs → Entered (b ∷ bs) cs
    other xs h x =
        let k = exact_is n xs cs x in
        let l : length cs ≤ length (b ∷ bs) = rw (← k.0) h in record {
          some = k.1;
          most = omega (arith, l);
          deeper = λ d. absurd (omega (arith, d, l));
        }

    go : (ltb b.indentation n ≡ true) ⊎ (ltb b.indentation n ≡ false) → (is_header b.last ≡ true) ⊎ (is_header b.last ≡ false) → Entered (b ∷ bs) cs
    go (inr h) k = other (within n (b ∷ bs)) (within_fewer n (b ∷ bs)) (rw h at e)
    go (inl h) (inr k) = none_some cs (rw (h, k) at e)
    go (inl h) (inl k) =
        let q : (record { indentation = n; last = None } ∷ b ∷ bs) ≡ cs = some_same (record { indentation = n; last = None } ∷ b ∷ bs) cs (rw (h, k) at e) in record {
          some = rw (← q) (omega arith);
          most = rw (← q) (omega arith);
          deeper = λ d. k;
        }

stands : (k : Option Keyword) (bs cs : List OpenBlock) → may_stand k bs ≡ Some cs → bs ≡ cs
stands k bs cs e = go (cases_Bool (may_follow (last_word bs) k))
  where
    go : (may_follow (last_word bs) k ≡ true) ⊎ (may_follow (last_word bs) k ≡ false) → bs ≡ cs
    go (inl h) = some_same bs cs (rw h at e)
    go (inr h) = none_some cs (rw h at e)

placed_in : (k : Option Keyword) (bs cs : List OpenBlock) (o : Option (List OpenBlock)) → ((xs : List OpenBlock) → o ≡ Some xs → Entered bs xs) → place_in k o ≡ Some cs → Entered bs cs
placed_in k bs cs None f e = none_some cs e
placed_in k bs cs (Some xs) f e = rw (stands k xs cs e) at (f xs refl)

may_stand_there : (d : ℕ) (c : Content) (l : Line) → Says d c l → MayStand d c
unfolding Says
may_stand_there d Docstring l s = tt
may_stand_there zero (InModule m) l s = tt
may_stand_there (suc d) (InModule m) l s = absurd s
may_stand_there zero (InBody b) l s = absurd s
may_stand_there (suc d) (InBody b) l s = tt

follows_more : (d : ℕ) (a b : Bool) (ps : List Placed) → (a ≡ true → b ≡ true) → MayFollow d a ps → MayFollow d b ps
unfolding MayFollow
follows_more d a b [] f m = tt
follows_more d a b (p ∷ ps) f (x, y, z, w) = (x, λ h. f (y h), z, w)

with_last_is : (k : Option Keyword) (cs : List OpenBlock) → 1 ≤ length cs → (depth (with_last k cs) ≡ depth cs) × (last_word (with_last k cs) ≡ k) × (1 ≤ length (with_last k cs))
with_last_is k [] h = absurd (omega (arith, h))
with_last_is k (c ∷ cs) h = (refl, refl, omega arith)

outline_follows : (bs : List OpenBlock) (ps : List Placed) (ls : List Line) → 1 ≤ length bs → SpellsOutline bs ps ls → MayFollow (depth bs) (is_header (last_word bs)) ps
unfolding SpellsOutline MayFollow place
outline_follows bs [] ls o s = tt
outline_follows bs (p ∷ ps) [] o s = absurd s
outline_follows bs (p ∷ ps) (l ∷ ls) o (cs, e, d, n, s, hb, r) =
    let x : Entered bs cs = placed_in (word_of l.tokens) bs cs (enter l.indentation bs) (entered l.indentation bs) e in
    let w = with_last_is (word_of l.tokens) cs x.some in
    let m : MayFollow (depth cs) (is_header (word_of l.tokens)) ps = rw (w.0, w.1) at (outline_follows (with_last (word_of l.tokens) cs) ps ls w.2 r) in
    let k : MayFollow (depth cs) (heads p.content) ps = follows_more (depth cs) (is_header (word_of l.tokens)) (heads p.content) ps (says_heads (depth cs) p.content l s) m in
    (rw d (omega (arith, x.most, o)), rw d (λ h. x.deeper (omega (arith, h, o, x.some))), rw d (may_stand_there (depth cs) p.content l s), rw d k)

pub text_follows : (ps : List Placed) (ls : List Line) → SpellsOutline at_start ps ls → MayFollow 0 false ps
text_follows ps ls s = outline_follows at_start ps ls (omega arith) s

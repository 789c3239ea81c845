-- Readers of lists read lists.
use Rattle.std.proofs.Common.{◌≡◌, inl, inr, ℕ, zero, suc, ◌<◌, ◌+◌, List, [], ◌∷◌, ◌++◌, length, Option, Some, None, refl, sym, ap, ◌∙◌, append_assoc, arith}
use Rattle.std.proofs.lemmas.List.{append-nil}
use Rattle.py_syntax.specs.declared.token.Token.{Token}
use Rattle.py_syntax.specs.Phrases.{Phrase, Ending, closes, nothing, others, elements, listed}
use Rattle.py_expression.specs.declared.phrase.mark.Mark.{Mark}
use Rattle.py_expression.specs.Phrase.Marks.{token_of, after, comma, closing_by}
use Rattle.py_expression.specs.Phrase.Readers.{Reader, stopping_by, ending, others_by, others_of, elements_of, listed_by, listed_of}
use Rattle.py_expression.proofs.PhraseLemmas.Facts.{after_is, after_again}
use Rattle.py_expression.proofs.PhraseLemmas.Phrased.{Reads, Anything, bind_some, pair_same}

-- What a list asks of its elements and of its end.
pub record Parts {A : Type 0} (p : Phrase A) (E : List Token → Type 0) (m : Mark) (close : Option Mark) (ends : Ending) (F : List Token → Type 0) : Type 0 where
  pub shorter : (ts us : List Token) (x : A) → p x ts us → length us < length ts
  pub before_mark : (us : List Token) → E (token_of m ∷ us)
  pub before_end : (ts us : List Token) → ends ts us → F us → E ts
  pub end_again : (ts us : List Token) → ends ts us → F us → ending m close ts ≡ Some us
  pub end_sound : (ts us : List Token) → ending m close ts ≡ Some us → ends ts us
  pub going : (us vs : List Token) (x : A) → p x us vs → ending m close (token_of m ∷ us) ≡ None

pub others_sound : {A : Type 0} (p : Phrase A) (r : Reader A) (E : List Token → Type 0) (m : Mark) (close : Option Mark) (ends : Ending) (F : List Token → Type 0)
    → Reads p r E → Parts p E m close ends F → (n : ℕ) (xs ys : List A) (ts rest : List Token) → others_of r m close n xs ts ≡ Some (ys, rest)
    → (zs : List A) × (ys ≡ xs ++ zs) × others p (token_of m) ends zs ts rest
unfolding others_of
others_sound p r E m close ends F a l zero xs ys ts rest e = cc
others_sound {A} p r E m close ends F a l (suc n) xs ys ts rest e =
    go (λ us vs h. others_sound p r E m close ends F a l n us ys vs rest h) (ending m close ts) refl e
  where
    go : ((us : List A) (vs : List Token) → others_of r m close n us vs ≡ Some (ys, rest) → (zs : List A) × (ys ≡ us ++ zs) × others p (token_of m) ends zs vs rest)
        → (o : Option (List Token)) → ending m close ts ≡ o → others_by r m (others_of r m close n) xs ts o ≡ Some (ys, rest)
        → (zs : List A) × (ys ≡ xs ++ zs) × others p (token_of m) ends zs ts rest
    go more (Some us) q h = let k = pair_same _ _ h in
        ([], sym k.0 ∙ sym (append-nil xs), l.end_sound ts rest (q ∙ ap (λ (w : List Token). Some w) k.1))
    go more None q h =
        let (us, eu, h1) = bind_some _ (after m ts) (ys, rest) h in
        let (x, ex, h2) = bind_some _ (r us) (ys, rest) h1 in
        let (zs, b, c) = more (xs ++ (x.0 ∷ [])) x.1 h2 in
        (x.0 ∷ zs, b ∙ append_assoc xs (x.0 ∷ []) zs, (us, x.1, after_is m ts us eu, a.sound us x.1 x.0 ex, c))

-- what stands behind an element ends it
follows : {A : Type 0} (p : Phrase A) (E : List Token → Type 0) (m : Mark) (close : Option Mark) (ends : Ending) (F : List Token → Type 0)
    → Parts p E m close ends F → (zs : List A) (ts rest : List Token) → others p (token_of m) ends zs ts rest → F rest → E ts
follows p E m close ends F l [] ts rest h f = l.before_end ts rest h f
follows p E m close ends F l (z ∷ zs) ts rest h f = rw h.2 (l.before_mark h.0)

length_of : (t : Token) (ts us : List Token) → ts ≡ t ∷ us → length ts ≡ length us + 1
length_of t ts us e = rw e (omega arith)

pub others_again : {A : Type 0} (p : Phrase A) (r : Reader A) (E : List Token → Type 0) (m : Mark) (close : Option Mark) (ends : Ending) (F : List Token → Type 0)
    → Reads p r E → Parts p E m close ends F → (n : ℕ) (xs zs : List A) (ts rest : List Token) → others p (token_of m) ends zs ts rest → F rest → length ts < n
    → others_of r m close n xs ts ≡ Some (xs ++ zs, rest)
unfolding others_of
others_again p r E m close ends F a l zero xs zs ts rest h f lt = absurd (omega (arith, lt))
others_again {A} p r E m close ends F a l (suc n) xs [] ts rest h f lt = rw (l.end_again ts rest h f) (ap (λ (w : List A). Some (w, rest)) (sym (append-nil xs)))
others_again {A} p r E m close ends F a l (suc n) xs (z ∷ zs) ts rest h f lt =
    let less : length h.0 < n = omega (arith, length_of (token_of m) ts h.0 h.2, lt) in
    let less2 : length h.1 < n = omega (arith, less, l.shorter h.0 h.1 z h.3) in
    rw (h.2, l.going h.0 h.1 z h.3, after_again m h.0, a.again h.0 h.1 z h.3 (follows p E m close ends F l zs h.1 rest h.4 f))
    (others_again p r E m close ends F a l n (xs ++ (z ∷ [])) zs h.1 rest h.4 f less2 ∙ ap (λ (w : List A). Some (w, rest)) (append_assoc xs (z ∷ []) zs))

pub elements_reads : {A : Type 0} (p : Phrase A) (r : Reader A) (E : List Token → Type 0) (m : Mark) (close : Option Mark) (ends : Ending) (F : List Token → Type 0)
    → Reads p r E → Parts p E m close ends F → Reads (elements p (token_of m) ends) (elements_of r m close) F
unfolding elements_of
elements_reads {A} p r E m close ends F a l = record { sound = sounds; again = agains }
  where
    sounds : (ts rest : List Token) (ys : List A) → elements_of r m close ts ≡ Some (ys, rest) → elements p (token_of m) ends ys ts rest
    sounds ts rest ys e =
        let (x, ex, e1) = bind_some _ (r ts) (ys, rest) e in
        let (zs, b, c) = others_sound p r E m close ends F a l (length ts) (x.0 ∷ []) ys x.1 rest e1 in
        rw b (x.1, a.sound ts x.1 x.0 ex, c)

    agains : (ts rest : List Token) (ys : List A) → elements p (token_of m) ends ys ts rest → F rest → elements_of r m close ts ≡ Some (ys, rest)
    agains ts rest [] h f = absurd h
    agains ts rest (y ∷ ys) h f =
        rw (a.again ts h.0 y h.1 (follows p E m close ends F l ys h.0 rest h.2 f))
        (others_again p r E m close ends F a l (length ts) (y ∷ []) ys h.0 rest h.2 f (l.shorter ts h.0 y h.1))

-- a list that a bracket closes
pub closing_parts : {A : Type 0} (p : Phrase A) (E : List Token → Type 0) (close : Mark)
    → ((ts us : List Token) (x : A) → p x ts us → length us < length ts) → ((us : List Token) → E (token_of comma ∷ us)) → ((us : List Token) → E (token_of close ∷ us))
    → ((us : List Token) → after comma (token_of close ∷ us) ≡ None) → ((us vs : List Token) (x : A) → p x us vs → after close us ≡ None)
    → Parts p E comma (Some close) (closes (token_of close)) Anything
unfolding ending
closing_parts {A} p E close s bm bc nc go = record {
  shorter = s;
  before_mark = bm;
  before_end = before;
  end_again = agains;
  end_sound = sounds;
  going = goes;
}
  where
    before : (ts us : List Token) → closes (token_of close) ts us → Anything us → E ts
    before ts us (inl h) f = rw h (bc us)
    before ts us (inr h) f = rw h (bm (token_of close ∷ us))

    agains : (ts us : List Token) → closes (token_of close) ts us → Anything us → ending comma (Some close) ts ≡ Some us
    agains ts us (inl h) f = rw (h, nc us) (after_again close us)
    agains ts us (inr h) f = rw (h, after_again comma (token_of close ∷ us)) (after_again close us)

    sounds : (ts us : List Token) → ending comma (Some close) ts ≡ Some us → closes (token_of close) ts us
    sounds ts us e = by (after comma ts) refl e
      where
        by : (o : Option (List Token)) → after comma ts ≡ o → closing_by close ts o ≡ Some us → closes (token_of close) ts us
        by None q h = inl (after_is close ts us h)
        by (Some vs) q h = inr (after_is comma ts vs q ∙ ap (λ w. token_of comma ∷ w) (after_is close vs us h))

    goes : (us vs : List Token) (x : A) → p x us vs → ending comma (Some close) (token_of comma ∷ us) ≡ None
    goes us vs x h = rw (after_again comma us) (go us vs x h)

-- a list that nothing closes
pub open_parts : {A : Type 0} (p : Phrase A) (E : List Token → Type 0) (m : Mark) (F : List Token → Type 0)
    → ((ts us : List Token) (x : A) → p x ts us → length us < length ts) → ((us : List Token) → E (token_of m ∷ us)) → ((us : List Token) → F us → E us)
    → ((us : List Token) → F us → after m us ≡ None) → Parts p E m None nothing F
unfolding ending
open_parts {A} p E m F s bm fe fm = record {
  shorter = s;
  before_mark = bm;
  before_end = λ ts us h f. rw h (fe us f);
  end_again = agains;
  end_sound = sounds;
  going = goes;
}
  where
    agains : (ts us : List Token) → nothing ts us → F us → ending m None ts ≡ Some us
    agains ts us h f = rw (h, fm us f) refl

    sounds : (ts us : List Token) → ending m None ts ≡ Some us → nothing ts us
    sounds ts us e = by (after m ts) refl e
      where
        by : (o : Option (List Token)) → after m ts ≡ o → stopping_by ts o ≡ Some us → ts ≡ us
        by None q h = grind (arith, h)
        by (Some vs) q h = cc

    goes : (us vs : List Token) (x : A) → p x us vs → ending m None (token_of m ∷ us) ≡ None
    goes us vs x h = rw (after_again m us) refl

-- the elements of a list in brackets
pub listed_reads : {A : Type 0} (p : Phrase A) (r : Reader A) (E : List Token → Type 0) (close : Mark)
    → Reads p r E → Parts p E comma (Some close) (closes (token_of close)) Anything → ((us vs : List Token) (x : A) → p x us vs → after close us ≡ None)
    → Reads (listed p (token_of close)) (listed_of r close) Anything
unfolding listed_of
listed_reads {A} p r E close a l n = record { sound = sounds; again = agains }
  where
    all : Reads (elements p (token_of comma) (closes (token_of close))) (elements_of r comma (Some close)) Anything
    all = elements_reads p r E comma (Some close) (closes (token_of close)) Anything a l

    some : (ts rest : List Token) (ys : List A) → elements p (token_of comma) (closes (token_of close)) ys ts rest → listed p (token_of close) ys ts rest
    some ts rest [] h = absurd h
    some ts rest (y ∷ ys) h = h

    sounds : (ts rest : List Token) (ys : List A) → listed_of r close ts ≡ Some (ys, rest) → listed p (token_of close) ys ts rest
    sounds ts rest ys e = by (after close ts) refl e
      where
        by : (o : Option (List Token)) → after close ts ≡ o → listed_by r close ts o ≡ Some (ys, rest) → listed p (token_of close) ys ts rest
        by None q h = some ts rest ys (all.sound ts rest ys h)
        by (Some us) q h = let k = pair_same _ _ h in rw (sym k.0) (after_is close ts us q ∙ ap (λ w. token_of close ∷ w) k.1)

    agains : (ts rest : List Token) (ys : List A) → listed p (token_of close) ys ts rest → Anything rest → listed_of r close ts ≡ Some (ys, rest)
    agains ts rest [] h f = rw (h, after_again close rest) refl
    agains ts rest (y ∷ ys) h f = rw (n ts h.0 y h.1) (all.again ts rest (y ∷ ys) h f)

-- What it means that a reader reads a phrase, and that readers which are put together as phrases are read these.
use Rattle.std.proofs.Common.{◌≡◌, ℕ, List, [], ◌∷◌, Option, Some, None, refl, sym, ap, ◌∙◌, subst}
use Rattle.py_syntax.specs.declared.token.Token.{Token}
use Rattle.py_syntax.specs.declared.token.Token.TheVariants as token
use Rattle.py_syntax.specs.Phrases.{Phrase, exactly, word, name, text, both, ◌◃◌, ◌▹◌, becomes, makes}
use Rattle.py_expression.specs.declared.phrase.mark.Mark.{Mark}
use Rattle.py_expression.specs.Phrase.Marks.{token_of, after, after_word}
use Rattle.py_expression.specs.Phrase.Readers as read
use Rattle.py_expression.specs.Phrase.Readers.{Reader, bind, both_of, map_of, makes_of, choose, ended, whole}
use Rattle.py_expression.proofs.PhraseLemmas.Facts.{some_same, after_is, after_again, after_word_is, after_word_again}

-- What is read is spelled, and what is spelled is read, where the tokens behind it end it.
pub record Reads {T : Type 0} (p : Phrase T) (r : Reader T) (Ends : List Token → Type 0) : Type 0 where
  pub sound : (ts rest : List Token) (x : T) → r ts ≡ Some (x, rest) → p x ts rest
  pub again : (ts rest : List Token) (x : T) → p x ts rest → Ends rest → r ts ≡ Some (x, rest)

abbrev pub Anything : List Token → Type 0
Anything ts = Unit {0}

abbrev pub End : List Token → Type 0
End ts = ts ≡ []

pub bind_some : {A B : Type 0} (k : A → Option B) (o : Option A) (y : B) → bind k o ≡ Some y → (x : A) × (o ≡ Some x) × (k x ≡ Some y)
bind_some k None y e = cc
bind_some k (Some x) y e = (x, refl, e)

pub pair_same : {A B : Type 0} (x y : A × B) → Some x ≡ Some y → (x.0 ≡ y.0) × (x.1 ≡ y.1)
pair_same {A} {B} x y e = (ap (λ (z : A × B). z.0) (some_same e), ap (λ (z : A × B). z.1) (some_same e))

-- the same, with the tokens behind it in other words
pub at_rest : {A : Type 0} (p : Phrase A) (x : A) (ts us vs : List Token) → us ≡ vs → p x ts us → p x ts vs
at_rest p x ts us vs e h = let P : List Token → Type 0 = λ w. p x ts w in subst P e h

pub mark_reads : (m : Mark) → Reads (exactly (token_of m)) (read.mark m) Anything
mark_reads m = record {
  sound = λ ts rest x e. let k = bind_some _ (after m ts) (x, rest) e in after_is m ts k.0 k.1 ∙ ap (λ w. token_of m ∷ w) (pair_same _ _ k.2).1;
  again = λ ts rest x e h. rw (e, after_again m rest) refl;
}

pub word_reads : (w : List ℕ) → Reads (word w) (read.word w) Anything
word_reads w = record {
  sound = λ ts rest x e. let k = bind_some _ (after_word w ts) (x, rest) e in after_word_is w ts k.0 k.1 ∙ ap (λ w2. token.Name w ∷ w2) (pair_same _ _ k.2).1;
  again = λ ts rest x e h. rw (e, after_word_again w rest) refl;
}

name_is : (ts rest : List Token) (n : List ℕ) → read.name ts ≡ Some (n, rest) → ts ≡ token.Name n ∷ rest
name_is [] rest n e = cc
name_is (token.Name m ∷ ts) rest n e = let k = pair_same _ _ e in ap (λ w. token.Name w ∷ ts) k.0 ∙ ap (λ w. token.Name n ∷ w) k.1
name_is (t ∷ ts) rest n e = cc

pub name_reads : Reads name read.name Anything
name_reads = record { sound = name_is; again = λ ts rest n e h. rw e refl }

text_is : (ts rest : List Token) (n : List ℕ) → read.text ts ≡ Some (n, rest) → ts ≡ token.Text n ∷ rest
text_is [] rest n e = cc
text_is (token.Text m ∷ ts) rest n e = let k = pair_same _ _ e in ap (λ w. token.Text w ∷ ts) k.0 ∙ ap (λ w. token.Text n ∷ w) k.1
text_is (t ∷ ts) rest n e = cc

pub text_reads : Reads text read.text Anything
text_reads = record { sound = text_is; again = λ ts rest n e h. rw e refl }

-- one after the other: what the second spells ends the first
pub both_reads : {A B C : Type 0} (make : A → B → C) (p : Phrase A) (q : Phrase B) (r : Reader A) (s : Reader B) (E F : List Token → Type 0)
    → Reads p r E → Reads q s F → ((mid rest : List Token) (y : B) → q y mid rest → F rest → E mid) → Reads (both make p q) (both_of make r s) F
both_reads {A} {B} {C} make p q r s E F a b ends = record {
  sound = λ ts rest z e. let (x, ex, e1) = bind_some _ (r ts) (z, rest) e in let (y, ey, e2) = bind_some _ (s x.1) (z, rest) e1 in
      let k = pair_same _ _ e2 in (x.0, y.0, x.1, a.sound ts x.1 x.0 ex, at_rest q y.0 x.1 y.1 rest k.1 (b.sound x.1 y.1 y.0 ey), sym k.0);
  again = λ ts rest z h f. rw (a.again ts h.2 h.0 h.3 (ends h.2 rest h.1 h.4 f), b.again h.2 rest h.1 h.4 f) (ap (λ (w : C). Some (w, rest)) (sym h.5));
}

pub becomes_reads : {A B : Type 0} (f : A → B) (p : Phrase A) (r : Reader A) (E : List Token → Type 0) → Reads p r E → Reads (becomes f p) (map_of f r) E
becomes_reads {A} {B} f p r E a = record {
  sound = λ ts rest z e. let (x, ex, e1) = bind_some _ (r ts) (z, rest) e in
      let k = pair_same _ _ e1 in (x.0, at_rest p x.0 ts x.1 rest k.1 (a.sound ts x.1 x.0 ex), sym k.0);
  again = λ ts rest z h en. rw (a.again ts rest h.0 h.1 en) (ap (λ (w : B). Some (w, rest)) (sym h.2));
}

pub makes_reads : {A B : Type 0} (f : A → Option B) (p : Phrase A) (r : Reader A) (E : List Token → Type 0) → Reads p r E → Reads (makes f p) (makes_of f r) E
makes_reads {A} {B} f p r E a = record {
  sound = λ ts rest z e. let (x, ex, e1) = bind_some _ (r ts) (z, rest) e in let (y, ey, e2) = bind_some _ (f x.0) (z, rest) e1 in
      let k = pair_same _ _ e2 in (x.0, at_rest p x.0 ts x.1 rest k.1 (a.sound ts x.1 x.0 ex), ey ∙ ap (λ (w : B). Some w) k.0);
  again = λ ts rest z h en. rw (a.again ts rest h.0 h.1 en, h.2) refl;
}

-- where nothing behind the first is asked
pub seq : {A B C : Type 0} {p : Phrase A} {q : Phrase B} {r : Reader A} {s : Reader B} {F : List Token → Type 0} (make : A → B → C)
    → Reads p r Anything → Reads q s F → Reads (both make p q) (both_of make r s) F
seq {A} {B} {C} {p} {q} {r} {s} {F} make a b = both_reads make p q r s Anything F a b (λ mid rest y h f. tt)

pub left : {A B : Type 0} {p : Phrase A} {q : Phrase B} {r : Reader A} {s : Reader B} {F : List Token → Type 0}
    → Reads p r Anything → Reads q s F → Reads (p ◃ q) (read.◌◃◌ r s) F
left a b = seq (λ x y. x) a b

pub right : {A B : Type 0} {p : Phrase A} {q : Phrase B} {r : Reader A} {s : Reader B} {F : List Token → Type 0}
    → Reads p r Anything → Reads q s F → Reads (p ▹ q) (read.◌▹◌ r s) F
right a b = seq (λ x y. y) a b

pub weaker : {A : Type 0} {p : Phrase A} {r : Reader A} {E : List Token → Type 0} (G : List Token → Type 0) → ((ts : List Token) → G ts → E ts) → Reads p r E → Reads p r G
weaker G h a = record { sound = a.sound; again = λ ts rest x s g. a.again ts rest x s (h rest g) }

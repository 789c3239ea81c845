-- Readers of alternatives, between which a test of the tokens decides.
use Rattle.std.proofs.Common.{◌≡◌, inl, inr, Bool, true, false, List, [], ◌∷◌, Option, Some, refl, ap, ◌∙◌}
use Rattle.py_syntax.specs.declared.token.Token.{Token}
use Rattle.py_syntax.specs.Phrases.{Phrase, either}
use Rattle.py_expression.specs.Phrase.Readers.{Reader, bind, choose, ended, whole}
use Rattle.py_expression.proofs.PhraseLemmas.Phrased.{Reads, bind_some}

pub either_reads : {A : Type 0} (p q : Phrase A) (r s : Reader A) (E F G : List Token → Type 0) (first : List Token → Bool)
    → Reads p r E → Reads q s F → ((rest : List Token) → G rest → E rest) → ((rest : List Token) → G rest → F rest)
    → ((ts rest : List Token) (x : A) → p x ts rest → G rest → first ts ≡ true) → ((ts rest : List Token) (x : A) → q x ts rest → G rest → first ts ≡ false)
    → Reads (either p q) (λ ts. choose (first ts) (r ts) (s ts)) G
either_reads {A} p q r s E F G first a b ge gf true_at false_at = record { sound = sounds; again = agains }
  where
    sounds : (ts rest : List Token) (x : A) → choose (first ts) (r ts) (s ts) ≡ Some (x, rest) → either p q x ts rest
    sounds ts rest x e = by (first ts) e
      where
        by : (c : Bool) → choose c (r ts) (s ts) ≡ Some (x, rest) → either p q x ts rest
        by true h = inl (a.sound ts rest x h)
        by false h = inr (b.sound ts rest x h)

    agains : (ts rest : List Token) (x : A) → either p q x ts rest → G rest → choose (first ts) (r ts) (s ts) ≡ Some (x, rest)
    agains ts rest x (inl h) g = rw (true_at ts rest x h g) (a.again ts rest x h (ge rest g))
    agains ts rest x (inr h) g = rw (false_at ts rest x h g) (b.again ts rest x h (gf rest g))

-- the same, where the test holds of the second
pub or_reads : {A : Type 0} (p q : Phrase A) (r s : Reader A) (E F G : List Token → Type 0) (second : List Token → Bool)
    → Reads p r E → Reads q s F → ((rest : List Token) → G rest → E rest) → ((rest : List Token) → G rest → F rest)
    → ((ts rest : List Token) (x : A) → p x ts rest → G rest → second ts ≡ false) → ((ts rest : List Token) (x : A) → q x ts rest → G rest → second ts ≡ true)
    → Reads (either p q) (λ ts. choose (second ts) (s ts) (r ts)) G
or_reads {A} p q r s E F G second a b ge gf false_at true_at = record { sound = sounds; again = agains }
  where
    sounds : (ts rest : List Token) (x : A) → choose (second ts) (s ts) (r ts) ≡ Some (x, rest) → either p q x ts rest
    sounds ts rest x e = by (second ts) e
      where
        by : (c : Bool) → choose c (s ts) (r ts) ≡ Some (x, rest) → either p q x ts rest
        by true h = inr (b.sound ts rest x h)
        by false h = inl (a.sound ts rest x h)

    agains : (ts rest : List Token) (x : A) → either p q x ts rest → G rest → choose (second ts) (s ts) (r ts) ≡ Some (x, rest)
    agains ts rest x (inl h) g = rw (false_at ts rest x h g) (a.again ts rest x h (ge rest g))
    agains ts rest x (inr h) g = rw (true_at ts rest x h g) (b.again ts rest x h (gf rest g))

-- All tokens are read exactly where the phrase spells them all.

pub whole_sound : {A : Type 0} (p : Phrase A) (r : Reader A) (E : List Token → Type 0) → Reads p r E → (ts : List Token) (x : A) → whole r ts ≡ Some x → p x ts []
whole_sound {A} p r E a ts x e = let (y, ey, e1) = bind_some _ (r ts) x e in by y.0 y.1 ey e1
  where
    by : (v : A) (rest : List Token) → r ts ≡ Some (v, rest) → ended (v, rest) ≡ Some x → p x ts []
    by v [] q h = a.sound ts [] x (q ∙ ap (λ (o : Option A). bind (λ w. Some (w, [])) o) h)
    by v (t ∷ rest) q h = cc

pub whole_again : {A : Type 0} (p : Phrase A) (r : Reader A) (E : List Token → Type 0) → Reads p r E → (ts : List Token) (x : A) → p x ts [] → E [] → whole r ts ≡ Some x
whole_again p r E a ts x h e = rw (a.again ts [] x h e) refl

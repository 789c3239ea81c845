-- Of two phrases each tree of the one is a tree of the other.
use Rattle.std.proofs.Common.{◌≡◌, ℕ, ◌≤◌, Bool, true, false, List, [], ◌∷◌, Option, Some, None, ◌⊎◌, inl, inr}
use Rattle.v_syntax.specs.declared.token.Token.{Token}
use Rattle.v_syntax.specs.declared.mark.Mark.TheVariants as mark
use Rattle.v_syntax.specs.Phrases.{Phrase, Each}
use Rattle.v_syntax.specs.Phrases as phrase
use Rattle.v_syntax.specs.Statements.{listed, sign}
use Rattle.v_expression.specs.Phrase.Kinds.{Kinds}
use Rattle.v_expression.proofs.PhraseLemmas.Laws.{Spells}

pub record Below {A : Type 0} (P Q : Phrase Token A) : Type 0 where
  pub whole : (x : A) (here rest : List Token) → P.whole x here rest → Q.whole x here rest
  pub front : (here rest : List Token) → P.front here rest → Q.front here rest
  pub missing : P.missing → Q.missing

pub same : {A : Type 0} (P : Phrase Token A) → Below P P
same P = record { whole = λ x here rest w. w; front = λ here rest f. f; missing = λ k. k }

pub never_below : {A : Type 0} (Q : Phrase Token A) → Below phrase.never Q
never_below Q = record { whole = λ x here rest w. absurd w; front = λ here rest f. absurd f; missing = λ k. absurd k }

pub spells_below : {A : Type 0} {n : ℕ} {P : ℕ → Phrase Token A} {s : Kinds} {e : Bool} → Spells n P s e → (m : ℕ) → n ≤ m → Below (P n) (P m)
spells_below l m h = record { whole = λ x here rest w. l.taller m x here rest h w; front = λ here rest f. l.higher m here rest h f; missing = l.more m h }

pub both_below : {A B C : Type 0} (make : A → B → C) {P P' : Phrase Token A} {Q Q' : Phrase Token B} → Below P P' → Below Q Q' → Below (phrase.both make P Q) (phrase.both make P' Q')
both_below make {P = P} {P' = P'} {Q = Q} {Q' = Q'} p q = record {
  whole = λ z here rest w. (w.0, w.1, w.2, p.whole w.0 here w.2 w.3, q.whole w.1 w.2 rest w.4, w.5);
  front = go;
  missing = λ k. (p.missing k.0, q.missing k.1);
}
  where
    go : (here rest : List Token) → (phrase.both make P Q).front here rest → (phrase.both make P' Q').front here rest
    go here rest (inl (f, k)) = inl (p.front here rest f, q.missing k)
    go here rest (inr (x, mid, w, f)) = inr (x, mid, p.whole x here mid w, q.front mid rest f)

pub apply_below : {A B : Type 0} {P P' : Phrase Token (A → B)} {Q Q' : Phrase Token A} → Below P P' → Below Q Q' → Below (phrase.both (λ f x. f x) P Q) (phrase.both (λ f x. f x) P' Q')
apply_below p q = both_below (λ f x. f x) p q

pub keep_below : {A B : Type 0} {P P' : Phrase Token A} {Q Q' : Phrase Token B} → Below P P' → Below Q Q' → Below (phrase.both (λ x y. x) P Q) (phrase.both (λ x y. x) P' Q')
keep_below p q = both_below (λ x y. x) p q

pub skip_below : {A B : Type 0} {P P' : Phrase Token A} {Q Q' : Phrase Token B} → Below P P' → Below Q Q' → Below (phrase.both (λ x y. y) P Q) (phrase.both (λ x y. y) P' Q')
skip_below p q = both_below (λ x y. y) p q

pub maybe_below : {A : Type 0} {P P' : Phrase Token A} → Below P P' → Below (phrase.maybe P) (phrase.maybe P')
maybe_below {P = P} {P' = P'} p = record { whole = wholes; front = fronts; missing = λ k. tt }
  where
    wholes : (o : Option _) (here rest : List Token) → (phrase.maybe P).whole o here rest → (phrase.maybe P').whole o here rest
    wholes None here rest e = e
    wholes (Some x) here rest w = p.whole x here rest w

    fronts : (here rest : List Token) → (phrase.maybe P).front here rest → (phrase.maybe P').front here rest
    fronts here rest (inl e) = inl e
    fronts here rest (inr f) = inr (p.front here rest f)

pub many_below : {A : Type 0} {P P' : Phrase Token A} → Below P P' → Below (phrase.many P) (phrase.many P')
many_below {P = P} {P' = P'} p = record { whole = each; front = λ here rest f. (f.0, f.1, each f.0 here f.1 f.2, go f.1 rest f.3); missing = λ k. tt }
  where
    each : (xs : List _) (here rest : List Token) → Each P.whole xs here rest → Each P'.whole xs here rest
    each [] here rest e = e
    each (x ∷ xs) here rest (mid, w, e) = (mid, p.whole x here mid w, each xs mid rest e)

    go : (mid rest : List Token) → (mid ≡ rest) ⊎ P.front mid rest → (mid ≡ rest) ⊎ P'.front mid rest
    go mid rest (inl e) = inl e
    go mid rest (inr f) = inr (p.front mid rest f)

pub one_below : {I A : Type 0} {P P' : I → Phrase Token A} → ((i : I) → Below (P i) (P' i)) → Below (phrase.one_of P) (phrase.one_of P')
one_below p = record { whole = λ x here rest w. (w.0, (p w.0).whole x here rest w.1); front = λ here rest f. (f.0, (p f.0).front here rest f.1); missing = λ k. (k.0, (p k.0).missing k.1) }

pub either_below : {A : Type 0} {P P' Q Q' : Phrase Token A} → Below P P' → Below Q Q' → Below (phrase.either P Q) (phrase.either P' Q')
either_below {P = P} {P' = P'} {Q = Q} {Q' = Q'} p q = one_below go
  where
    go : (i : Bool) → Below (phrase.second_if P Q i) (phrase.second_if P' Q' i)
    go false = p
    go true = q

pub listed_below : {A : Type 0} {P P' : Phrase Token A} → Below P P' → Below (listed P) (listed P')
listed_below p = both_below ◌∷◌ p (many_below (skip_below (same (sign mark.Comma)) p))

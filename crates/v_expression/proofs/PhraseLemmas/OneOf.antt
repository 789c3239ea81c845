-- One of several phrases, by the first token.
use Rattle.std.proofs.Common.{◌≡◌, ℕ, ◌≤◌, true, false, List, length, Option, Some, None, Ok, Err, refl, sym, ◌∙◌, arith, ◌⊎◌, inl, inr}
use Rattle.v_syntax.specs.declared.token.Token.{Token}
use Rattle.v_syntax.specs.Phrases.{Phrase}
use Rattle.v_syntax.specs.Phrases as phrase
use Rattle.v_expression.specs.Phrase.Stops.{Stop, Syntax, TooDeep, deep_at, syntax_at}
use Rattle.v_expression.proofs.PhraseLemmas.Extends.{Extends}
use Rattle.v_expression.proofs.PhraseLemmas.Passes.{Passes, passes_more}
use Rattle.v_expression.specs.Phrase.Readers.{Reader}
use Rattle.v_expression.specs.Phrase.Readers as read
use Rattle.v_expression.specs.Phrase.Kinds.{Kind, kind_at, Kinds}
use Rattle.v_expression.proofs.PhraseLemmas.Laws.{left, Goes, Reached, Starts, Takes, Spells, Laws, Ready, err_ok, left_same, deep_same}
use Rattle.v_expression.proofs.PhraseLemmas.Tokens.{as_long}

-- at some tokens: the phrase may be missing, or its reader refuses the height at once
abbrev pub Fits : {A : Type 0} → ℕ → (ℕ → Phrase Token A) → (ℕ → Reader A) → List Token → Type 0
Fits n P p here = (P n).missing ⊎ ((p n here ≡ deep_at here) × Goes n P here (length here))

pub ready_fits : {A : Type 0} {n : ℕ} {P : ℕ → Phrase Token A} {s : Kinds} {p : ℕ → Reader A} → Ready n P s p → (here : List Token) → s (kind_at here) ≡ true → Fits n P p here
ready_fits {n = n} {P = P} {s = s} {p = p} r here h = go r.ready
  where
    go : (P n).missing ⊎ ((here : List Token) → s (kind_at here) ≡ true → (p n here ≡ deep_at here) × Goes n P here (length here)) → Fits n P p here
    go (inl m) = inl m
    go (inr d) = inr (d here h)

module _ {I A : Type 0} (n : ℕ) (P : I → ℕ → Phrase Token A) (S : I → Kinds) (s : Kinds) (wide : (i : I) (k : Kind) → S i k ≡ true → s k ≡ true) (spells : (i : I) → Spells n (P i) (S i) false) where
  one_starts : (i : I) (here rest : List Token) → Starts (S i) here rest → Starts s here rest
  one_starts i here rest (inl e) = inl e
  one_starts i here rest (inr h) = inr (wide i (kind_at here) h)

  one_takes : (i : I) (here rest : List Token) → Takes (S i) false here rest → Takes s false here rest
  one_takes i here rest (inl e) = inl e
  one_takes i here rest (inr h) = inr (wide i (kind_at here) h.0, h.1)

  pub one_spells : Spells n (λ m. phrase.one_of (λ i. P i m)) s false
  one_spells = record {
    full = λ x here rest w. (w.0, (spells w.0).full x here rest w.1);
    none = λ here k. (k.0, (spells k.0).none here k.1);
    roomy = λ here rest f. (f.0, (spells f.0).roomy here rest f.1);
    higher = λ m here rest h f. (f.0, (spells f.0).higher m here rest h f.1);
    taller = λ m x here rest h w. (w.0, (spells w.0).taller m x here rest h w.1);
    more = λ m h k. (k.0, (spells k.0).more m h k.1);
    between = λ here rest f. (spells f.0).between here rest f.1;
    shorter = λ here rest mid f z l. (f.0, (spells f.0).shorter here rest mid f.1 z l);
    starting = λ here rest f. one_starts f.0 here rest ((spells f.0).starting here rest f.1);
    begun = λ x here rest w. one_takes w.0 here rest ((spells w.0).begun x here rest w.1);
  }

module _ {I A : Type 0} (n : ℕ) (P : I → ℕ → Phrase Token A) (S : I → Kinds) (t : Kinds) (p : I → ℕ → Reader A) (which : List Token → Option I) (pick : Kind → Option I)
    (tells : (ts : List Token) → which ts ≡ pick (kind_at ts)) (s : Kinds)
    (chosen : (i : I) (k : Kind) → S i k ≡ true → pick k ≡ Some i) (wide : (i : I) (k : Kind) → S i k ≡ true → s k ≡ true) (laws : (i : I) → Laws n (P i) (S i) false t (p i)) where
  abbrev O : ℕ → Phrase Token A
  O m = phrase.one_of (λ i. P i m)

  abbrev r : ℕ → Reader A
  r m = read.one_of which (λ i. p i m)

  reads_as : (m : ℕ) (i : I) (here : List Token) → pick (kind_at here) ≡ Some i → r m here ≡ p i m here
  reads_as m i here h = rw (tells here, h) refl

  reads_none : (m : ℕ) (here : List Token) → pick (kind_at here) ≡ None → r m here ≡ syntax_at here
  reads_none m here h = rw (tells here, h) refl

  abbrev Picked : List Token → Type 0
  Picked here = ((i : I) × (pick (kind_at here) ≡ Some i)) ⊎ (pick (kind_at here) ≡ None)

  picked : (here : List Token) → Picked here
  picked here = go (pick (kind_at here)) refl
    where
      go : (o : Option I) → pick (kind_at here) ≡ o → Picked here
      go (Some i) h = inl (i, h)
      go None h = inr h

  one_sound : (here : List Token) (x : A) (rest : List Token) → r n here ≡ Ok (x, rest) → (O n).whole x here rest
  one_sound here x rest e = go (picked here)
    where
      go : Picked here → (O n).whole x here rest
      go (inl (i, h)) = (i, (laws i).reads.sound here x rest (sym (reads_as n i here h) ∙ e))
      go (inr h) = absurd (err_ok (x, rest) (Syntax (length here)) (sym (reads_none n here h) ∙ e))

  one_kept : (m : ℕ) (here : List Token) → n ≤ m → Extends (r n here) (r m here)
  one_kept m here z = go (picked here)
    where
      go : Picked here → Extends (r n here) (r m here)
      go (inl (i, h)) = rw (reads_as n i here h, reads_as m i here h) ((laws i).reads.kept m here z)
      go (inr h) = rw (reads_none n here h, reads_none m here h) refl

  is_picked : (i : I) (x : A) (here rest : List Token) → (P i n).whole x here rest → pick (kind_at here) ≡ Some i
  is_picked i x here rest w = go ((laws i).spells.begun x here rest w)
    where
      go : Takes (S i) false here rest → pick (kind_at here) ≡ Some i
      go (inl (e, h)) = absurd (let f : false ≡ true = e in cc)
      go (inr h) = chosen i (kind_at here) h.0

  one_again : (x : A) (here rest : List Token) → (O n).whole x here rest → t (kind_at rest) ≡ true → r n here ≡ Ok (x, rest)
  one_again x here rest (i, w) h = reads_as n i here (is_picked i x here rest w) ∙ (laws i).reads.again x here rest w h

  one_forward : (here : List Token) → Passes (length here) (r n here)
  one_forward here = go (picked here)
    where
      go : Picked here → Passes (length here) (r n here)
      go (inl (i, h)) = rw (reads_as n i here h) ((laws i).reads.forward here)
      go (inr h) = rw (reads_none n here h) (omega arith)

  one_far : (here rest : List Token) → (O n).front here rest → Passes (length rest) (r n here)
  one_far here rest (i, f) = go ((laws i).spells.starting here rest f)
    where
      go : Starts (S i) here rest → Passes (length rest) (r n here)
      go (inl e) = passes_more (length here) (length rest) (r n here) (as_long here rest e) (one_forward here)
      go (inr h) = rw (reads_as n i here (chosen i (kind_at here) h)) ((laws i).reads.far here rest f)

  module _ (fits : (i : I) (here : List Token) → pick (kind_at here) ≡ Some i → (O n).missing → Fits n (P i) (p i) here) where
    none_here : (here : List Token) (stop : Stop) → (O n).missing → length here ≡ left stop → Reached (O n) here (left stop)
    none_here here stop k e = (here, (k.0, (laws k.0).spells.none here k.1), e)

    one_near : (here : List Token) (stop : Stop) → (O n).missing → r n here ≡ Err stop → Reached (O n) here (left stop)
    one_near here stop k e = go (picked here)
      where
        by_fit : (i : I) → p i n here ≡ Err stop → Fits n (P i) (p i) here → Reached (O n) here (left stop)
        by_fit i h (inl m) = let d = (laws i).reads.near here stop m h in (d.0, (i, d.1), d.2)
        by_fit i h (inr d) = none_here here stop k (left_same {A = A} (TooDeep (length here)) stop (sym d.0 ∙ h))

        go : Picked here → Reached (O n) here (left stop)
        go (inl (i, h)) = by_fit i (sym (reads_as n i here h) ∙ e) (fits i here h k)
        go (inr h) = none_here here stop k (left_same {A = A} (Syntax (length here)) stop (sym (reads_none n here h) ∙ e))

    one_through : (here : List Token) (j : ℕ) → (O n).missing → r n here ≡ Err (TooDeep j) → Goes n O here j
    one_through here j k e = go (picked here)
      where
        by_fit : (i : I) → p i n here ≡ Err (TooDeep j) → Fits n (P i) (p i) here → Goes n O here j
        by_fit i h (inl m) = let d = (laws i).reads.through here j m h in (d.0, d.1, d.2, (i, d.3), d.4)
        by_fit i h (inr d) =
            let g : length here ≡ j = deep_same {A = A} (length here) j (sym d.0 ∙ h) in
            (d.1.0, d.1.1, d.1.2, (i, d.1.3), rw (← g) d.1.4)

        go : Picked here → Goes n O here j
        go (inl (i, h)) = by_fit i (sym (reads_as n i here h) ∙ e) (fits i here h k)
        go (inr h) = absurd (let f : syntax_at here ≡ Err (TooDeep j) = sym (reads_none n here h) ∙ e in cc)

    pub one_laws : Laws n (λ m. phrase.one_of (λ i. P i m)) s false t (λ m. read.one_of which (λ i. p i m))
    one_laws = record {
      spells = one_spells n P S s wide (λ i. (laws i).spells);
      reads = record {
        sound = one_sound;
        near = one_near;
        through = one_through;
        kept = one_kept;
        again = one_again;
        forward = one_forward;
        far = one_far;
      };
    }

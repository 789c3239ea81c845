-- One of two phrases, by the first token.
use Rattle.std.proofs.Common.{◌≡◌, ℕ, Bool, true, false, not, List, Some, refl, ap, ◌⊎◌, inl, inr}
use Rattle.v_syntax.specs.declared.token.Token.{Token}
use Rattle.v_syntax.specs.Phrases.{Phrase}
use Rattle.v_syntax.specs.Phrases as phrase
use Rattle.v_expression.specs.Phrase.Readers.{Reader}
use Rattle.v_expression.specs.Phrase.Readers as read
use Rattle.v_expression.specs.Phrase.Kinds.{Kind, kind_at, Kinds, either_of, Within, Tells}
use Rattle.v_expression.proofs.PhraseLemmas.KindLaws.{or_left, or_right, not_true, true_or_false, within}
use Rattle.v_expression.proofs.PhraseLemmas.Laws.{Spells, Laws, Ready}
use Rattle.v_expression.proofs.PhraseLemmas.Change.{reread}
use Rattle.v_expression.proofs.PhraseLemmas.OneOf.{Fits, ready_fits, one_spells, one_laws}

abbrev by : {X : Type 1} → X → X → Bool → X
by x y false = x
by x y true = y

abbrev kinds_of : Kinds → Kinds → Bool → Kinds
kinds_of a b false = a
kinds_of a b true = b

abbrev reader_of : {A : Type 0} → (ℕ → Reader A) → (ℕ → Reader A) → Bool → ℕ → Reader A
reader_of p q false = p
reader_of p q true = q

not_of : (b : Bool) → b ≡ false → not b ≡ true
not_of b h = rw h refl

some_same : (x y : Bool) → Some x ≡ Some y → x ≡ y
some_same x y h = cc

module _ {A : Type 0} (n : ℕ) {P Q : ℕ → Phrase Token A} {sp sq t : Kinds} {p q : ℕ → Reader A} (pl : Laws n P sp false t p) (ql : Laws n Q sq false t q) where
  abbrev F : Bool → ℕ → Phrase Token A
  F i m = phrase.second_if (P m) (Q m) i

  laws : (i : Bool) → Laws n (F i) (kinds_of sp sq i) false t (reader_of p q i)
  laws false = pl
  laws true = ql

  wide : (i : Bool) (k : Kind) → kinds_of sp sq i k ≡ true → either_of sp sq k ≡ true
  wide false k h = or_left (sp k) (sq k) h
  wide true k h = or_right (sp k) (sq k) h

  -- the second where a token is of this set
  module _ (second : Kinds) (test : List Token → Bool) (tells : Tells test second) (first_apart : (k : Kind) → sp k ≡ true → second k ≡ false) (second_in : (k : Kind) → sq k ≡ true → second k ≡ true)
      (fits : (i : Bool) (here : List Token) → second (kind_at here) ≡ i → (phrase.either (P n) (Q n)).missing → Fits n (F i) (reader_of p q i) here) where
    chosen : (i : Bool) (k : Kind) → kinds_of sp sq i k ≡ true → Some (second k) ≡ Some i
    chosen false k h = ap (λ z. Some z) (first_apart k h)
    chosen true k h = ap (λ z. Some z) (second_in k h)

    pub by_second : Laws n (λ m. phrase.either (P m) (Q m)) (either_of sp sq) false t (λ m. read.one_of (λ ts. Some (test ts)) (λ i. reader_of p q i m))
    by_second = one_laws n F (kinds_of sp sq) t (reader_of p q) (λ ts. Some (test ts)) (λ k. Some (second k)) (λ ts. ap (λ z. Some z) (tells ts)) (either_of sp sq) chosen wide laws
        (λ i here h k. fits i here (some_same (second (kind_at here)) i h) k)

  -- The first token of the second is looked at.
  module _ (test : List Token → Bool) (tells : Tells test sq) (apart : Within sp (λ k. not (sq k))) (ready : Ready n Q sq q) (default : (phrase.either (P n) (Q n)).missing → (P n).missing) where
    default_fits : (i : Bool) (here : List Token) → sq (kind_at here) ≡ i → (phrase.either (P n) (Q n)).missing → Fits n (F i) (reader_of p q i) here
    default_fits false here h k = inl (default k)
    default_fits true here h k = ready_fits ready here h

    first_same : (m : ℕ) (here : List Token) → read.one_of (λ ts. Some (test ts)) (λ i. reader_of p q i m) here ≡ read.either test (q m) (p m) here
    first_same m here = go (true_or_false (test here))
      where
        go : (test here ≡ true) ⊎ (test here ≡ false) → reader_of p q (test here) m here ≡ read.either test (q m) (p m) here
        go (inl h) = rw h refl
        go (inr h) = rw h refl

    pub either_second : Laws n (λ m. phrase.either (P m) (Q m)) (either_of sp sq) false t (λ m. read.either test (q m) (p m))
    either_second = reread (by_second sq test tells (λ k h. not_true (sq k) (within sp (λ j. not (sq j)) apart k h)) (λ k h. h) default_fits) (λ m. read.either test (q m) (p m)) first_same

  -- The first token of the first is looked at.
  module _ (test : List Token → Bool) (tells : Tells test sp) (apart : Within sq (λ k. not (sp k))) (ready : Ready n P sp p) (default : (phrase.either (P n) (Q n)).missing → (Q n).missing) where
    abbrev negated : List Token → Bool
    negated ts = not (test ts)

    negated_tells : Tells negated (λ k. not (sp k))
    negated_tells ts = ap not (tells ts)

    is_first : (b : Bool) → not b ≡ false → b ≡ true
    is_first true h = refl
    is_first false h = absurd (let e : true ≡ false = h in cc)

    first_fits : (i : Bool) (here : List Token) → not (sp (kind_at here)) ≡ i → (phrase.either (P n) (Q n)).missing → Fits n (F i) (reader_of p q i) here
    first_fits false here h k = ready_fits ready here (is_first (sp (kind_at here)) h)
    first_fits true here h k = inl (default k)

    second_same : (m : ℕ) (here : List Token) → read.one_of (λ ts. Some (negated ts)) (λ i. reader_of p q i m) here ≡ read.either test (p m) (q m) here
    second_same m here = go (true_or_false (test here))
      where
        go : (test here ≡ true) ⊎ (test here ≡ false) → reader_of p q (not (test here)) m here ≡ read.either test (p m) (q m) here
        go (inl h) = rw h refl
        go (inr h) = rw h refl

    pub either_first : Laws n (λ m. phrase.either (P m) (Q m)) (either_of sp sq) false t (λ m. read.either test (p m) (q m))
    either_first = reread (by_second (λ k. not (sp k)) negated negated_tells (λ k h. ap not h) (λ k h. within sq (λ j. not (sp j)) apart k h) first_fits) (λ m. read.either test (p m) (q m)) second_same

-- ---- trees alone

module _ {A : Type 0} (n : ℕ) {P Q : ℕ → Phrase Token A} {sp sq : Kinds} (ps : Spells n P sp false) (qs : Spells n Q sq false) where
  abbrev G : Bool → ℕ → Phrase Token A
  G i m = phrase.second_if (P m) (Q m) i

  spells : (i : Bool) → Spells n (G i) (kinds_of sp sq i) false
  spells false = ps
  spells true = qs

  any_wide : (i : Bool) (k : Kind) → kinds_of sp sq i k ≡ true → either_of sp sq k ≡ true
  any_wide false k h = or_left (sp k) (sq k) h
  any_wide true k h = or_right (sp k) (sq k) h

  pub either_spells : Spells n (λ m. phrase.either (P m) (Q m)) (either_of sp sq) false
  either_spells = one_spells n G (kinds_of sp sq) (either_of sp sq) any_wide spells

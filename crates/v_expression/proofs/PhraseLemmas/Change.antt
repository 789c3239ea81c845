-- The same laws of the same phrase and reader, said otherwise.
use Rattle.std.proofs.Common.{◌≡◌, ℕ, zero, suc, ◌≤◌, Bool, true, List, sym, ◌∙◌, arith, inl, inr}
use Rattle.v_syntax.specs.declared.token.Token.{Token}
use Rattle.v_syntax.specs.Phrases.{Phrase}
use Rattle.v_expression.proofs.PhraseLemmas.Extends.{Extends}
use Rattle.v_expression.specs.Phrase.Readers.{Reader}
use Rattle.v_expression.specs.Phrase.Kinds.{Kind, kind_at, Kinds, Within, SameKinds}
use Rattle.v_expression.proofs.PhraseLemmas.KindLaws.{within, same_kinds}
use Rattle.v_expression.proofs.PhraseLemmas.Laws.{Goes, Starts, Takes, Spells, Laws}

module _ {A : Type 0} {n : ℕ} {P : ℕ → Phrase Token A} {s : Kinds} {e : Bool} (l : Spells n P s e) (u : Kinds) (h : Within s u) where
  wide_starts : (here rest : List Token) → Starts s here rest → Starts u here rest
  wide_starts here rest (inl k) = inl k
  wide_starts here rest (inr k) = inr (within s u h (kind_at here) k)

  wide_takes : (here rest : List Token) → Takes s e here rest → Takes u e here rest
  wide_takes here rest (inl k) = inl k
  wide_takes here rest (inr k) = inr (within s u h (kind_at here) k.0, k.1)

  pub widen_spells : Spells n P u e
  widen_spells = record {
    full = l.full;
    none = l.none;
    roomy = l.roomy;
    higher = l.higher;
    taller = l.taller;
    more = l.more;
    between = l.between;
    shorter = l.shorter;
    starting = λ here rest f. wide_starts here rest (l.starting here rest f);
    begun = λ x here rest w. wide_takes here rest (l.begun x here rest w);
  }

module _ {A : Type 0} {n : ℕ} {P : ℕ → Phrase Token A} {s t : Kinds} {e : Bool} {p : ℕ → Reader A} (l : Laws n P s e t p) where
  -- the same answers
  pub reread : (q : ℕ → Reader A) → ((m : ℕ) (here : List Token) → p m here ≡ q m here) → Laws n P s e t q
  reread q same = record {
    spells = l.spells;
    reads = record {
      sound = λ here x rest h. l.reads.sound here x rest (same n here ∙ h);
      near = λ here stop k h. l.reads.near here stop k (same n here ∙ h);
      through = λ here j k h. l.reads.through here j k (same n here ∙ h);
      kept = λ m here h. rw (← same n here, ← same m here) (l.reads.kept m here h);
      again = λ x here rest w h. sym (same n here) ∙ l.reads.again x here rest w h;
      forward = λ here. rw (← same n here) (l.reads.forward here);
      far = λ here rest f. rw (← same n here) (l.reads.far here rest f);
    };
  }

  -- fewer tokens that end it
  pub narrow : (u : Kinds) → Within u t → Laws n P s e u p
  narrow u h = record {
    spells = l.spells;
    reads = record {
      sound = l.reads.sound;
      near = l.reads.near;
      through = l.reads.through;
      kept = l.reads.kept;
      again = λ x here rest w k. l.reads.again x here rest w (within u t h (kind_at rest) k);
      forward = l.reads.forward;
      far = l.reads.far;
    };
  }

  -- more tokens with which it may begin
  pub widen : (u : Kinds) → Within s u → Laws n P u e t p
  widen u h = record { spells = widen_spells l.spells u h; reads = l.reads }

  -- whole trees said otherwise
  pub rewhole : (W : ℕ → A → List Token → List Token → Type 0) → ((m : ℕ) (x : A) (here rest : List Token) → (P m).whole x here rest → W m x here rest) → ((m : ℕ) (x : A) (here rest : List Token) → W m x here rest → (P m).whole x here rest)
      → Laws n (λ m. record { whole = W m; front = (P m).front; missing = (P m).missing }) s e t p
  rewhole W to from = record {
    spells = record {
      full = λ x here rest w. l.spells.full x here rest (from n x here rest w);
      none = l.spells.none;
      roomy = l.spells.roomy;
      higher = l.spells.higher;
      taller = λ m x here rest h w. to m x here rest (l.spells.taller m x here rest h (from n x here rest w));
      more = l.spells.more;
      between = l.spells.between;
      shorter = l.spells.shorter;
      starting = l.spells.starting;
      begun = λ x here rest w. l.spells.begun x here rest (from n x here rest w);
    };
    reads = record {
      sound = λ here x rest h. to n x here rest (l.reads.sound here x rest h);
      near = l.reads.near;
      through = l.reads.through;
      kept = l.reads.kept;
      again = λ x here rest w h. l.reads.again x here rest (from n x here rest w) h;
      forward = l.reads.forward;
      far = l.reads.far;
    };
  }

-- a set that says the same
pub set_left : (a b : Kinds) → SameKinds a b → (k : Kind) → a k ≡ true → b k ≡ true
set_left a b h k i = sym (same_kinds a b h k) ∙ i

-- ---- heights counted from one, and from nothing

raised_goes : {A : Type 0} (n : ℕ) (P : ℕ → Phrase Token A) (here : List Token) (k : ℕ) → Goes n (λ m. P (suc m)) here k → Goes (suc n) P here k
raised_goes n P here k (m, h, rest, f, l) = (suc m, omega arith, rest, f, l)

raised : (n : ℕ) (X : ℕ → Type 0) → ((m : ℕ) → n ≤ m → X (suc m)) → (m : ℕ) → suc n ≤ m → X m
raised n X f zero h = absurd (omega arith)
raised n X f (suc m) h = f m (omega arith)

lowered_goes : {A : Type 0} (n : ℕ) (P : ℕ → Phrase Token A) (here : List Token) (k : ℕ) → Goes (suc n) P here k → Goes n (λ m. P (suc m)) here k
lowered_goes n P here k (zero, h, rest, f, l) = absurd (omega arith)
lowered_goes n P here k (suc m, h, rest, f, l) = (m, omega arith, rest, f, l)

pub raise_spells : {A : Type 0} {n : ℕ} {P : ℕ → Phrase Token A} {s : Kinds} {e : Bool} → Spells n (λ m. P (suc m)) s e → Spells (suc n) P s e
raise_spells {n = n} {P = P} l = record {
  full = l.full;
  none = l.none;
  roomy = l.roomy;
  higher = λ m here rest h f. raised n (λ i. (P i).front here rest) (λ i k. l.higher i here rest k f) m h;
  taller = λ m x here rest h w. raised n (λ i. (P i).whole x here rest) (λ i k. l.taller i x here rest k w) m h;
  more = λ m h k. raised n (λ i. (P i).missing) (λ i j. l.more i j k) m h;
  between = l.between;
  shorter = l.shorter;
  starting = l.starting;
  begun = l.begun;
}

module _ {A : Type 0} {n : ℕ} {P : ℕ → Phrase Token A} {s t : Kinds} {e : Bool} {p : ℕ → Reader A} where
  pub raise : Laws n (λ m. P (suc m)) s e t (λ m. p (suc m)) → Laws (suc n) P s e t p
  raise l = record {
    spells = raise_spells l.spells;
    reads = record {
      sound = l.reads.sound;
      near = l.reads.near;
      through = λ here j k h. raised_goes n P here j (l.reads.through here j k h);
      kept = λ m here h. raised n (λ i. Extends (p (suc n) here) (p i here)) (λ i k. l.reads.kept i here k) m h;
      again = l.reads.again;
      forward = l.reads.forward;
      far = l.reads.far;
    };
  }

  pub lower : Laws (suc n) P s e t p → Laws n (λ m. P (suc m)) s e t (λ m. p (suc m))
  lower l = record {
    spells = record {
      full = l.spells.full;
      none = l.spells.none;
      roomy = l.spells.roomy;
      higher = λ m here rest h f. l.spells.higher (suc m) here rest (omega arith) f;
      taller = λ m x here rest h w. l.spells.taller (suc m) x here rest (omega arith) w;
      more = λ m h k. l.spells.more (suc m) (omega arith) k;
      between = l.spells.between;
      shorter = l.spells.shorter;
      starting = l.spells.starting;
      begun = l.spells.begun;
    };
    reads = record {
      sound = l.reads.sound;
      near = l.reads.near;
      through = λ here j k h. lowered_goes n P here j (l.reads.through here j k h);
      kept = λ m here h. l.reads.kept (suc m) here (omega arith);
      again = l.reads.again;
      forward = l.reads.forward;
      far = l.reads.far;
    };
  }

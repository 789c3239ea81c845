-- Readers whose phrase may be cut by the height before its first token.
use Rattle.std.proofs.Common.{◌≡◌, ℕ, Bool, true, List, length, Err, refl, sym, ◌∙◌, ◌⊎◌, inl, inr}
use Rattle.v_syntax.specs.declared.token.Token.{Token}
use Rattle.v_syntax.specs.Phrases.{Phrase}
use Rattle.v_syntax.specs.Phrases as phrase
use Rattle.v_expression.specs.Phrase.Stops.{Stop, TooDeep, deep_at}
use Rattle.v_expression.specs.Phrase.Readers.{Reader}
use Rattle.v_expression.specs.Phrase.Readers as read
use Rattle.v_expression.specs.Phrase.Kinds.{kind_at, Kinds}
use Rattle.v_expression.proofs.PhraseLemmas.Laws.{left, Goes, Reached, Laws, Ready, left_same, deep_same}

-- A phrase that may always be missing.
pub always_ready : {A : Type 0} (n : ℕ) (P : ℕ → Phrase Token A) (s : Kinds) (p : ℕ → Reader A) → (P n).missing → Ready n P s p
always_ready n P s p h = record { ready = inl h }

module _ {A : Type 0} {n : ℕ} {P : ℕ → Phrase Token A} {s t : Kinds} {e : Bool} {p : ℕ → Reader A} (laws : Laws n P s e t p) (r : Ready n P s p) (here : List Token) (starts : s (kind_at here) ≡ true) where
  pub near_or_here : (stop : Stop) → p n here ≡ Err stop → Reached (P n) here (left stop) ⊎ (length here ≡ left stop)
  near_or_here stop f = go r.ready
    where
      go : (P n).missing ⊎ ((here : List Token) → s (kind_at here) ≡ true → (p n here ≡ deep_at here) × Goes n P here (length here)) → Reached (P n) here (left stop) ⊎ (length here ≡ left stop)
      go (inl m) = inl (laws.reads.near here stop m f)
      go (inr d) = inr (left_same {A = A} (TooDeep (length here)) stop (sym (d here starts).0 ∙ f))

  pub goes_through : (k : ℕ) → p n here ≡ Err (TooDeep k) → Goes n P here k
  goes_through k f = go r.ready
    where
      go : (P n).missing ⊎ ((here : List Token) → s (kind_at here) ≡ true → (p n here ≡ deep_at here) × Goes n P here (length here)) → Goes n P here k
      go (inl m) = laws.reads.through here k m f
      go (inr d) =
          let z = d here starts in
          let g : length here ≡ k = deep_same {A = A} (length here) k (sym z.0 ∙ f) in
          (z.1.0, z.1.1, z.1.2, z.1.3, rw (← g) z.1.4)

-- behind what stands for nothing
pub ready_behind : {A B C : Type 0} (make : A → B → C) (x : A) {n : ℕ} {Q : ℕ → Phrase Token B} {s : Kinds} {q : ℕ → Reader B} → Ready n Q s q
    → Ready n (λ m. phrase.both make (phrase.nothing x) (Q m)) s (λ m. read.both make (read.nothing x) (q m))
ready_behind make x {n = n} {Q = Q} {s = s} {q = q} r = record { ready = go r.ready }
  where
    go : (Q n).missing ⊎ ((here : List Token) → s (kind_at here) ≡ true → (q n here ≡ deep_at here) × Goes n Q here (length here))
        → (Unit {0} × (Q n).missing) ⊎ ((here : List Token) → s (kind_at here) ≡ true → (read.both make (read.nothing x) (q n) here ≡ deep_at here) × Goes n (λ m. phrase.both make (phrase.nothing x) (Q m)) here (length here))
    go (inl m) = inl (tt, m)
    go (inr d) = inr (λ here h. (rw (d here h).0 refl, ((d here h).1.0, (d here h).1.1, (d here h).1.2, inr (x, here, (refl, refl), (d here h).1.3), (d here h).1.4)))

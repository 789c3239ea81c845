-- Which digits the continuous assignments among some processes change, and that no two of them change one.
use Rattle.std.proofs.Common.{◌≡◌, ◌⊎◌, inl, inr, ℕ, zero, suc, List, [], ◌∷◌, ◌++◌, slice_get, Some, refl, ap, subst}
use Rattle.gpi.specs.declared.design.Kind.TheVariants as process_kind
use Rattle.gpi.specs.Design.{Proc}
use Rattle.v_laws.specs.Digits.{Changes}

abbrev pub Assigns : Proc → ℕ → ℕ → Type 0
Assigns p n k = (p.kind ≡ process_kind.Assign) × Changes p n k

-- one of these changes digit k of signal n
abbrev pub Taken : List Proc → ℕ → ℕ → Type 0
Taken [] n k = ⊥
Taken (p ∷ ps) n k = Assigns p n k ⊎ Taken ps n k

-- a later one changes no digit that p does
abbrev pub Spares : Proc → List Proc → Type 0
Spares p ps = (n k : ℕ) → Assigns p n k → Taken ps n k → ⊥

abbrev pub Once : List Proc → Type 0
Once [] = Unit {0}
Once (p ∷ ps) = Spares p ps × Once ps

pub taken_last : (ps : List Proc) (p : Proc) (n k : ℕ) → Taken (ps ++ (p ∷ [])) n k → Taken ps n k ⊎ Assigns p n k
taken_last [] p n k (inl h) = inr h
taken_last [] p n k (inr h) = absurd h
taken_last (q ∷ ps) p n k (inl h) = inl (inl h)
taken_last (q ∷ ps) p n k (inr h) = go (taken_last ps p n k h)
  where
    go : Taken ps n k ⊎ Assigns p n k → Taken (q ∷ ps) n k ⊎ Assigns p n k
    go (inl a) = inl (inr a)
    go (inr b) = inr b

pub once_last : (ps : List Proc) (p : Proc) → Once ps → Spares p ps → Once (ps ++ (p ∷ []))
once_last [] p h f = ((λ n k a t. t), tt)
once_last (q ∷ ps) p h f = ((λ n k a t. go n k a (taken_last ps p n k t)), once_last ps p h.1 (λ n k a t. f n k a (inr t)))
  where
    go : (n k : ℕ) → Assigns q n k → Taken ps n k ⊎ Assigns p n k → ⊥
    go n k a (inl t) = h.0 n k a t
    go n k a (inr b) = f n k b (inl a)

taken_at : (ps : List Proc) (i : ℕ) (p : Proc) (n k : ℕ) → slice_get ps i ≡ Some p → Assigns p n k → Taken ps n k
taken_at [] i p n k e a = cc
taken_at (q ∷ ps) zero p n k e a = let f : p ≡ q = cc in inl (subst (λ (r : Proc). Assigns r n k) f a)
taken_at (q ∷ ps) (suc i) p n k e a = inr (taken_at ps i p n k e a)

pub one_each : (ps : List Proc) → Once ps → (i j : ℕ) (p q : Proc) (n k : ℕ) → slice_get ps i ≡ Some p → slice_get ps j ≡ Some q → Assigns p n k → Assigns q n k → i ≡ j
one_each [] h i j p q n k e f a b = cc
one_each (x ∷ xs) h zero zero p q n k e f a b = refl
one_each (x ∷ xs) h zero (suc j) p q n k e f a b = let g : p ≡ x = cc in absurd (h.0 n k (subst (λ (r : Proc). Assigns r n k) g a) (taken_at xs j q n k f b))
one_each (x ∷ xs) h (suc i) zero p q n k e f a b = let g : q ≡ x = cc in absurd (h.0 n k (subst (λ (r : Proc). Assigns r n k) g b) (taken_at xs i p n k e a))
one_each (x ∷ xs) h (suc i) (suc j) p q n k e f a b = ap suc (one_each xs h.1 i j p q n k e f a b)

-- Calls one after the other.
use Rattle.std.proofs.Common.{◌≡◌, ℕ, ◌+◌, List, [], ◌∷◌, ◌++◌, fold, add-one, refl, ap, sym, ◌∙◌, append_assoc}
use Rattle.std.proofs.lemmas.List.Sums.{fold-append}
use Rattle.edge_tests.specs.Port.Calls.{first_of, told}

module _ {S C : Type 0} (word : S → C → List ℕ) (step : S → C → S) where
  -- what is told of calls, and then of more
  told_then : (start : S) (xs ys : List C) → told word step start (xs ++ ys) ≡ told word step start xs ++ told word step (fold step start xs) ys
  told_then start [] ys = refl
  told_then start (x ∷ xs) ys =
      ap (λ (l : List ℕ). word start x ++ l) (told_then (step start x) xs ys)
      ∙ sym (append_assoc (word start x) (told word step (step start x) xs) (told word step (fold step (step start x) xs) ys))

  -- the calls at one place more change the thing that is called
  pub steps_more : (start before after : S) (at : ℕ → List C) (n : ℕ)
      → before ≡ fold step start (first_of at n) → after ≡ fold step before (at n) → after ≡ fold step start (first_of at (n + 1))
  steps_more start before after at n e f =
      rw add-one (f ∙ (ap (λ (s : S). fold step s (at n)) e ∙ sym (fold-append step start (first_of at n) (at n))))

  -- and are told
  pub told_more : (start before : S) (at : ℕ → List C) (n : ℕ) (out more : List ℕ)
      → before ≡ fold step start (first_of at n) → out ≡ told word step start (first_of at n) → more ≡ out ++ told word step before (at n)
      → more ≡ told word step start (first_of at (n + 1))
  told_more start before at n out more e f g =
      rw add-one
      (
      g
      ∙ ap (λ (l : List ℕ). l ++ told word step before (at n)) f
      ∙ ap (λ (s : S). told word step start (first_of at n) ++ told word step s (at n)) e
      ∙ sym (told_then start (first_of at n) (at n))
      )

-- How many elements of a list pass a test, and what stands in a list after a change.
use Rattle.std.proofs.Common.{◌≡◌, ℕ, zero, suc, ◌+◌, ◌<◌, ◌≤◌, Bool, true, false, List, [], ◌∷◌, ◌++◌, length, refl, ap, sym, ◌∙◌, arith, eq-eqb}
use Rattle.std.proofs.lemmas.List.Recursion.{is_count_by}
use Rattle.std.specs.Prelude.{◌==◌, not, filter, cond, count_by, slice_index_or, slice_set}
use Rattle.std.specs.List.{list_any}
use Rattle.rig_model.specs.Parts.Placed.{one_if}

-- ---- numbers

pub other_number : (m n : ℕ) → (m == n) ≡ false → m ≡ n → ⊥
other_number m n h e = let k : (m == n) ≡ true = eq-eqb m n e in let z : true ≡ false = sym k ∙ h in cc

-- ---- a list after a change at one place, or with one more

pub set_long : {A : Type 0} → (xs : List A) (n : ℕ) (x : A) → length (slice_set xs n x) ≡ length xs
set_long [] n x = refl
set_long (y ∷ ys) zero x = refl
set_long (y ∷ ys) (suc n) x = ap suc (set_long ys n x)

pub own_at : {A : Type 0} → (xs : List A) (x d : A) (n : ℕ) → n < length xs → slice_index_or (slice_set xs n x) n d ≡ x
own_at [] x d n h = absurd (omega arith)
own_at (y ∷ ys) x d zero h = refl
own_at (y ∷ ys) x d (suc n) h = own_at ys x d n (omega arith)

pub other_at : {A : Type 0} → (xs : List A) (x d : A) (m n : ℕ) → (m ≡ n → ⊥) → slice_index_or (slice_set xs m x) n d ≡ slice_index_or xs n d
other_at [] x d m n h = refl
other_at (y ∷ ys) x d zero zero h = absurd (h refl)
other_at (y ∷ ys) x d zero (suc n) h = refl
other_at (y ∷ ys) x d (suc m) zero h = refl
other_at (y ∷ ys) x d (suc m) (suc n) h = other_at ys x d m n (λ (e : m ≡ n). h (ap suc e))

-- behind the list there is nothing
pub past_at : {A : Type 0} → (xs : List A) (d : A) (n : ℕ) → length xs ≤ n → slice_index_or xs n d ≡ d
past_at [] d n h = refl
past_at (y ∷ ys) d zero h = absurd (omega arith)
past_at (y ∷ ys) d (suc n) h = past_at ys d n (omega arith)

-- one that is nothing changes nothing
pub none_more : {A : Type 0} → (xs : List A) (d : A) (n : ℕ) → slice_index_or (xs ++ d ∷ []) n d ≡ slice_index_or xs n d
none_more [] d zero = refl
none_more [] d (suc n) = refl
none_more (y ∷ ys) d zero = refl
none_more (y ∷ ys) d (suc n) = none_more ys d n

-- ---- how many pass

abbrev pub count : {X : Type 0} → (X → Bool) → List X → ℕ
count p [] = 0
count p (x ∷ xs) = one_if (p x) + count p xs

pub one_true : (b : Bool) → b ≡ true → one_if b ≡ 1
one_true b h = ap one_if h

pub one_false : (b : Bool) → b ≡ false → one_if b ≡ 0
one_false b h = ap one_if h

module _ {X : Type 0} (p : X → Bool) where
  counted : (b : Bool) (n : ℕ) → one_if b + n ≡ cond b (1 + n) n
  counted true n = refl
  counted false n = omega arith

  pub count_is : (xs : List X) → count p xs ≡ count_by p xs
  count_is xs = is_count_by (count p) p refl (λ x ys. counted (p x) (count p ys)) xs

  pub count_more : (xs ys : List X) → count p (xs ++ ys) ≡ count p xs + count p ys
  count_more [] ys = omega arith
  count_more (x ∷ xs) ys = let h : count p (xs ++ ys) ≡ count p xs + count p ys = count_more xs ys in omega arith

  -- none is left
  kept_out : (b : Bool) (x : X) (xs : List X) → p x ≡ b → count p xs ≡ 0 → count p (cond (not b) (x ∷ xs) xs) ≡ 0
  kept_out true x xs e h = h
  kept_out false x xs e h = omega (arith, one_false (p x) e, h)

  pub count_out : (xs : List X) → count p (filter (λ (x : X). not (p x)) xs) ≡ 0
  count_out [] = refl
  count_out (x ∷ xs) = kept_out (p x) x (filter (λ (y : X). not (p y)) xs) refl (count_out xs)

  -- those that pass another test may go
  module _ (q : X → Bool) (apart : (x : X) → q x ≡ true → p x ≡ false) where
    kept_apart : (b : Bool) (x : X) (xs : List X) (n : ℕ) → q x ≡ b → count p xs ≡ n → count p (cond (not b) (x ∷ xs) xs) ≡ one_if (p x) + n
    kept_apart true x xs n e h = omega (arith, one_false (p x) (apart x e), h)
    kept_apart false x xs n e h = omega (arith, h)

    pub count_apart : (xs : List X) → count p (filter (λ (x : X). not (q x)) xs) ≡ count p xs
    count_apart [] = refl
    count_apart (x ∷ xs) = kept_apart (q x) x (filter (λ (y : X). not (q y)) xs) (count p xs) refl (count_apart xs)

  -- where none is counted none passes
  none_first : (b : Bool) (x : X) (xs : List X) → p x ≡ b → one_if (p x) + count p xs ≡ 0 → (count p xs ≡ 0 → list_any p xs ≡ false) → list_any p (x ∷ xs) ≡ false
  none_first true x xs e h k = absurd (omega (arith, h, one_true (p x) e))
  none_first false x xs e h k = rw e (k (omega (arith, h)))

  pub none_any : (xs : List X) → count p xs ≡ 0 → list_any p xs ≡ false
  none_any [] h = refl
  none_any (x ∷ xs) h = none_first (p x) x xs refl h (λ k. none_any xs k)

-- Lists that are gone through from the front.
use Rattle.std.specs.Prelude.{◌≡◌, ◌<◌, ℕ, zero, suc, ◌+◌, List, [], ◌∷◌, ◌++◌, take, drop, length, get_or, Some, slice_get, refl}
use Rattle.std.proofs.Common.{ap, sym, ◌∙◌, append_assoc, add-one, arith}
use Rattle.gpi.proofs.Sound.{drop_next}

-- what is made of one element more
pub one_more : {X Y : Type 0} (f : List X → List Y) → ((x : X) (xs : List X) → f (x ∷ xs) ≡ f (x ∷ []) ++ f xs) → (before after whole : List Y) (xs : List X) (i : ℕ) (x : X)
    → slice_get xs i ≡ Some x → after ≡ before ++ f (x ∷ []) → before ++ f (drop i xs) ≡ whole → after ++ f (drop (i + 1) xs) ≡ whole
one_more {X} {Y} f splits before after whole xs i x there made is =
    ap (λ (l : List Y). l ++ f (drop (i + 1) xs)) made
    ∙ (append_assoc before (f (x ∷ [])) (f (drop (i + 1) xs))
    ∙ (ap (λ (l : List Y). before ++ l) (sym (splits x (drop (i + 1) xs)) ∙ ap f (sym (drop_next xs i x there))) ∙ is))

-- an element among those before it and behind it
cut_suc : (xs : List ℕ) (i : ℕ) → i < length xs → xs ≡ take i xs ++ get_or xs i 0 ∷ drop (suc i) xs
cut_suc [] i h = absurd (omega arith)
cut_suc (x ∷ xs) zero h = refl
cut_suc (x ∷ xs) (suc i) h = ap (λ (l : List ℕ). x ∷ l) (cut_suc xs i (omega arith))

pub cut_at : (xs : List ℕ) (i : ℕ) → i < length xs → xs ≡ take i xs ++ get_or xs i 0 ∷ drop (i + 1) xs
cut_at xs i h = cut_suc xs i h ∙ ap (λ (n : ℕ). take i xs ++ get_or xs i 0 ∷ drop n xs) (sym (add-one i))

take_suc : (xs : List ℕ) (i : ℕ) → i < length xs → take (suc i) xs ≡ take i xs ++ get_or xs i 0 ∷ []
take_suc [] i h = absurd (omega arith)
take_suc (x ∷ xs) zero h = refl
take_suc (x ∷ xs) (suc i) h = ap (λ (l : List ℕ). x ∷ l) (take_suc xs i (omega arith))

pub take_next : (xs : List ℕ) (i : ℕ) → i < length xs → take (i + 1) xs ≡ take i xs ++ get_or xs i 0 ∷ []
take_next xs i h = ap (λ (n : ℕ). take n xs) (add-one i) ∙ take_suc xs i h

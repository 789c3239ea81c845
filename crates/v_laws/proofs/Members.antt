-- What stands in a list.
use Rattle.std.proofs.Common.{◌≡◌, ◌⊎◌, inl, inr, List, [], ◌∷◌, ◌++◌, map, refl}

abbrev pub Member : {A : Type 0} → A → List A → Type 0
Member x [] = ⊥
Member x (y ∷ ys) = (x ≡ y) ⊎ Member x ys

pub member_both : {A : Type 0} (x : A) (ys zs : List A) → Member x (ys ++ zs) → Member x ys ⊎ Member x zs
member_both x [] zs h = inr h
member_both x (y ∷ ys) zs (inl h) = inl (inl h)
member_both {A} x (y ∷ ys) zs (inr h) = go (member_both x ys zs h)
  where
    go : Member x ys ⊎ Member x zs → Member x (y ∷ ys) ⊎ Member x zs
    go (inl a) = inl (inr a)
    go (inr b) = inr b

-- what it was made of
pub member_map : {A B : Type 0} (f : A → B) (y : B) (xs : List A) → Member y (map f xs) → (x : A) × Member x xs × (y ≡ f x)
member_map f y [] h = absurd h
member_map f y (x ∷ xs) (inl h) = (x, inl refl, h)
member_map f y (x ∷ xs) (inr h) = let r = member_map f y xs h in (r.0, inr r.1, r.2)

-- A list that was made of another is as long.
use Rattle.std.proofs.Common.{◌≡◌, List, [], ◌∷◌, map, length, refl, ap, suc}

pub lengths : {A B : Type 0} (f : A → B) (xs : List A) → length (map f xs) ≡ length xs
lengths f [] = refl
lengths f (x ∷ xs) = ap suc (lengths f xs)

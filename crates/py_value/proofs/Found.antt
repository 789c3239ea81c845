-- What stands at a place of a list that was made of another.
use Rattle.std.proofs.Common.{◌≡◌, ℕ, zero, suc, List, [], ◌∷◌, map, slice_get, Some, ap, sym}
use Rattle.std.specs.Prelude.{slice_index_or}

pub found : {A : Type 0} (f : A → List ℕ) (xs : List A) (n : ℕ) (x : A) → slice_get xs n ≡ Some x → f x ≡ slice_index_or (map f xs) n []
found f [] n x h = absurd (cc)
found f (y ∷ xs) zero x h = let e : y ≡ x = cc in ap f (sym e)
found f (y ∷ xs) (suc n) x h = found f xs n x h

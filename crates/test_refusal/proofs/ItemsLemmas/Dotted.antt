-- The name of a module.
use Rattle.std.proofs.Common.{◌≡◌, ◌≤◌, ℕ, List, [], ◌∷◌, ◌++◌, length, take, ap, ◌∙◌}
use Rattle.std.proofs.lemmas.List.{append-nil, take_all}
use Rattle.std.specs.List.{flat_map, join_with_byte}

-- parts with dots between them
dotted : (x : List ℕ) (xs : List (List ℕ)) → x ++ flat_map (λ y. 46 ∷ y) xs ≡ join_with_byte 46 (x ∷ xs)
dotted x [] = let e : x ++ [] ≡ x = append-nil x in e
dotted x (y ∷ ys) = ap (λ zs. x ++ (46 ∷ zs)) (dotted y ys)

-- behind the last part
pub all_parts : (first : List ℕ) (others : List (List ℕ)) (i : ℕ) (name : List ℕ) → length others ≤ i
    → name ≡ first ++ flat_map (λ part. 46 ∷ part) (take i others) → name ≡ join_with_byte 46 (first ∷ others)
all_parts first others i name h e = e ∙ ap (λ ps. first ++ flat_map (λ part. 46 ∷ part) ps) (take_all i others h) ∙ dotted first others

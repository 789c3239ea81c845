-- How many tests stand at some items, and at one more.
use Rattle.std.proofs.Common.{◌≡◌, ◌+◌, ℕ, List, [], ◌∷◌, ◌++◌, sym, ap, ◌∙◌, arith}
use Rattle.std.proofs.lemmas.List.{append-nil, append_assoc}
use Rattle.std.proofs.lemmas.List.Sums.{sum_by-cons}
use Rattle.py_syntax.specs.BlockTrees.{ModuleItem}
use Rattle.test_meaning.specs.Rules.File.{File, Place, file_of, places, places_below}
use Rattle.test_meaning.specs.Rules.Rules.{tests_among, tests_at}

grouped : (a b c : ℕ) → a + (b + c) ≡ (a + b) + c
grouped a b c = omega arith

one_alone : (a : ℕ) → a + 0 ≡ 0 + a
one_alone a = omega arith

-- the tests at the first item, and those at the items behind it
first_more : (f : File) (xs ys : List ModuleItem) (z : ModuleItem)
    → tests_among f (places_below xs (z ∷ ys)) ≡ tests_at f (file_of xs) z + tests_among f (places_below (xs ++ z ∷ []) ys)
first_more f xs ys z =
    sum_by-cons (λ (p : Place). tests_at f (file_of p.above) p.item) (record { item = z; above = xs; below = ys }) (places_below (xs ++ z ∷ []) ys)

count_behind : (f : File) (xs ys : List ModuleItem) (y : ModuleItem)
    → tests_among f (places_below xs (ys ++ y ∷ [])) ≡ tests_among f (places_below xs ys) + tests_at f (file_of (xs ++ ys)) y
count_behind f xs [] y =
    first_more f xs [] y ∙ one_alone (tests_at f (file_of xs) y) ∙ ap (λ zs. 0 + tests_at f (file_of zs) y) (sym (append-nil xs))
count_behind f xs (z ∷ ys) y =
    first_more f xs (ys ++ y ∷ []) z
    ∙ ap (λ n. tests_at f (file_of xs) z + n) (count_behind f (xs ++ z ∷ []) ys y)
    ∙ grouped (tests_at f (file_of xs) z) (tests_among f (places_below (xs ++ z ∷ []) ys)) (tests_at f (file_of ((xs ++ z ∷ []) ++ ys)) y)
    ∙ ap (λ n. n + tests_at f (file_of ((xs ++ z ∷ []) ++ ys)) y) (sym (first_more f xs ys z))
    ∙ ap (λ zs. tests_among f (places_below xs (z ∷ ys)) + tests_at f (file_of zs) y) (append_assoc xs (z ∷ []) ys)

pub tests_with_item : (f : File) (xs : List ModuleItem) (x : ModuleItem)
    → tests_among f (places (xs ++ x ∷ [])) ≡ tests_among f (places xs) + tests_at f (file_of xs) x
tests_with_item f xs x = count_behind f [] xs x

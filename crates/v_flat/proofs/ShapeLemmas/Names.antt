-- Names that differ.
use Rattle.std.proofs.Common.{◌≡◌, ◌||◌, ◌⊎◌, inl, inr, ℕ, Bool, true, false, List, [], ◌∷◌, ◌++◌, refl, ap, ◌∙◌}
use Rattle.std.proofs.lemmas.Slice.Eq.{bytes_eq-Decides}
use Rattle.std.specs.Prelude.{bytes_eq}
use Rattle.std.specs.List.{list_any}

abbrev pub Among : List ℕ → List (List ℕ) → Type 0
Among n ns = list_any (bytes_eq n) ns ≡ true

-- each stands there once
abbrev pub Differ : List (List ℕ) → Type 0
Differ [] = Unit {0}
Differ (n ∷ ns) = (Among n ns → ⊥) × Differ ns

pub same_name : (a b : List ℕ) → bytes_eq a b ≡ true → a ≡ b
same_name a b h = (bytes_eq-Decides a b).0 h

pub is_itself : (a : List ℕ) → bytes_eq a a ≡ true
is_itself a = (bytes_eq-Decides a a).1 refl

one_or : (a b : Bool) → (a || b) ≡ true → (a ≡ true) ⊎ (b ≡ true)
one_or true b h = inl refl
one_or false b h = inr h

pub one_of_more : (n m : List ℕ) (ns : List (List ℕ)) → Among n (m ∷ ns) → (n ≡ m) ⊎ Among n ns
one_of_more n m ns h = go (one_or (bytes_eq n m) (list_any (bytes_eq n) ns) h)
  where
    go : (bytes_eq n m ≡ true) ⊎ Among n ns → (n ≡ m) ⊎ Among n ns
    go (inl k) = inl (same_name n m k)
    go (inr k) = inr k

pub among_first : (n : List ℕ) (ns : List (List ℕ)) → Among n (n ∷ ns)
among_first n ns = ap (λ b. b || list_any (bytes_eq n) ns) (is_itself n)

pub among_later : (n m : List ℕ) (ns : List (List ℕ)) → Among n ns → Among n (m ∷ ns)
among_later n m ns h = go (bytes_eq n m) h
  where
    go : (b : Bool) → Among n ns → (b || list_any (bytes_eq n) ns) ≡ true
    go true k = refl
    go false k = k

pub among_both : (n : List ℕ) (xs ys : List (List ℕ)) → Among n (xs ++ ys) → Among n xs ⊎ Among n ys
among_both n [] ys h = inr h
among_both n (x ∷ xs) ys h = go (one_of_more n x (xs ++ ys) h) (among_both n xs ys)
  where
    go : (n ≡ x) ⊎ Among n (xs ++ ys) → (Among n (xs ++ ys) → Among n xs ⊎ Among n ys) → Among n (x ∷ xs) ⊎ Among n ys
    go (inl e) k = inl (ap (λ m. list_any (bytes_eq m) (x ∷ xs)) e ∙ among_first x xs)
    go (inr a) k = later (k a)
      where
        later : Among n xs ⊎ Among n ys → Among n (x ∷ xs) ⊎ Among n ys
        later (inl b) = inl (among_later n x xs b)
        later (inr b) = inr b

pub among_left : (n : List ℕ) (xs ys : List (List ℕ)) → Among n xs → Among n (xs ++ ys)
among_left n [] ys h = cc
among_left n (x ∷ xs) ys h = go (one_of_more n x xs h) (among_left n xs ys)
  where
    go : (n ≡ x) ⊎ Among n xs → (Among n xs → Among n (xs ++ ys)) → Among n (x ∷ (xs ++ ys))
    go (inl e) k = ap (λ m. list_any (bytes_eq m) (x ∷ (xs ++ ys))) e ∙ among_first x (xs ++ ys)
    go (inr a) k = among_later n x (xs ++ ys) (k a)

pub among_right : (n : List ℕ) (xs ys : List (List ℕ)) → Among n ys → Among n (xs ++ ys)
among_right n [] ys h = h
among_right n (x ∷ xs) ys h = among_later n x (xs ++ ys) (among_right n xs ys h)

-- two lists without a name in common
pub differ_both : (xs ys : List (List ℕ)) → Differ xs → Differ ys → ((n : List ℕ) → Among n xs → Among n ys → ⊥) → Differ (xs ++ ys)
differ_both [] ys h k apart = k
differ_both (x ∷ xs) ys h k apart = (first, differ_both xs ys h.1 k (λ n a b. apart n (among_later n x xs a) b))
  where
    first : Among x (xs ++ ys) → ⊥
    first a = go (among_both x xs ys a)
      where
        go : Among x xs ⊎ Among x ys → ⊥
        go (inl b) = h.0 b
        go (inr b) = apart x (among_first x xs) b

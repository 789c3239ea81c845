-- The first of a list that passes a test, found from the front.
use Rattle.std.proofs.Common.{◌≡◌, ℕ, suc, ◌+◌, ◌<◌, ◌≤◌, Bool, true, false, cond, List, [], ◌∷◌, length, map, drop, get_or, Some, None, refl, sym, ap, ◌∙◌, drop-cons, add-one}
use Rattle.std.specs.Prelude.{option_map}
use Rattle.std.specs.List.{find}
use Rattle.std.specs.Str.{bytes_eq}
use Rattle.std.proofs.lemmas.List.{drop_all}
use Rattle.py_syntax.specs.declared.constant.Const.{Const}
use Rattle.test_meaning.specs.Factory.Options.{chosen}
use Rattle.test_meaning.specs.Factory.Product.{Chosen}
use Rattle.test_meaning.specs.Cases.{chosen_of}

found_at : {A : Type 0} (test : A → Bool) (xs : List A) (i : ℕ) (x : A) → i < length xs → x ≡ get_or xs i x
    → find test (drop i xs) ≡ cond (test x) (Some x) (find test (drop (i + 1) xs))
found_at test xs i x h is =
    ap (λ ys. find test ys) (drop-cons xs i x h ∙ ap (λ y. y ∷ drop (suc i) xs) (sym is) ∙ ap (λ j. x ∷ drop j xs) (sym (add-one i)))

-- it passes
pub found : {A : Type 0} (test : A → Bool) (xs : List A) (i : ℕ) (x : A) (b : Bool) → i < length xs → x ≡ get_or xs i x → b ≡ test x → b ≡ true
    → find test xs ≡ find test (drop i xs) → find test xs ≡ Some x
found test xs i x b h is e w before =
    before ∙ found_at test xs i x h is ∙ ap (λ c. cond c (Some x) (find test (drop (i + 1) xs))) (sym e ∙ w)

-- it doesn't
pub passed : {A : Type 0} (test : A → Bool) (xs : List A) (i : ℕ) (x : A) (b : Bool) → i < length xs → x ≡ get_or xs i x → b ≡ test x → b ≡ false
    → find test xs ≡ find test (drop i xs) → find test xs ≡ find test (drop (i + 1) xs)
passed test xs i x b h is e w before =
    before ∙ found_at test xs i x h is ∙ ap (λ c. cond c (Some x) (find test (drop (i + 1) xs))) (sym e ∙ w)

-- none does
pub nowhere : {A : Type 0} (test : A → Bool) (xs : List A) (i : ℕ) → length xs ≤ i → find test xs ≡ find test (drop i xs) → find test xs ≡ None
nowhere test xs i h before = before ∙ ap (λ ys. find test ys) (drop_all i xs h)

-- the value that a case has for an option, by the code's pairs
pub chosen_found : (n : List ℕ) (xs : List (List ℕ × Const)) → chosen_of (map chosen xs) n ≡ option_map (λ c. c.1) (find (λ c. bytes_eq c.0 n) xs)
chosen_found n [] = refl
chosen_found n (x ∷ xs) = go (bytes_eq x.0 n) (chosen_found n xs)
  where
    go : (b : Bool) → option_map (λ (c : Chosen). c.value) (find (λ c. bytes_eq c.name n) (map chosen xs)) ≡ option_map (λ c. c.1) (find (λ c. bytes_eq c.0 n) xs)
        → option_map (λ (c : Chosen). c.value) (cond b (Some (chosen x)) (find (λ c. bytes_eq c.name n) (map chosen xs)))
        ≡ option_map (λ c. c.1) (cond b (Some x) (find (λ c. bytes_eq c.0 n) xs))
    go true h = refl
    go false h = h

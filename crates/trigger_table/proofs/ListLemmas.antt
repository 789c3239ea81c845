-- Lists of numbers under a function, a test or a function to lists, where these agree on the members.
use Rattle.std.proofs.Common.{◌≡◌, ◌⊎◌, ℕ, List, [], ◌∷◌, ◌++◌, map, filter, Bool, true, false, cond, refl, sym, ap, ◌∙◌, inl, inr}
use Rattle.std.proofs.lemmas.Bool.{cases_eq, cond-true, cond-false}
use Rattle.std.proofs.lemmas.List.{append_assoc}
use Rattle.trigger_table.specs.Links.{without, IsIn}
use Rattle.trigger_table.proofs.LinkLemmas.{without_head, without_past}
use Rattle.trigger_table.specs.State.{concat_by}

pub map_on : {B : Type 0} (f g : ℕ → B) (xs : List ℕ) → ((k : ℕ) → IsIn k xs → f k ≡ g k) → map f xs ≡ map g xs
map_on f g [] same = refl
map_on f g (x ∷ xs) same =
    ap (λ y. y ∷ map f xs) (same x (inl refl)) ∙ ap (λ ys. g x ∷ ys) (map_on f g xs (λ k found. same k (inr found)))

pub concat_on : {B : Type 0} (f g : ℕ → List B) (xs : List ℕ) → ((k : ℕ) → IsIn k xs → f k ≡ g k) → concat_by f xs ≡ concat_by g xs
concat_on f g [] same = refl
concat_on f g (x ∷ xs) same =
    ap (λ y. y ++ concat_by f xs) (same x (inl refl)) ∙ ap (λ ys. g x ++ ys) (concat_on f g xs (λ k found. same k (inr found)))

pub filter_on : (p q : ℕ → Bool) (xs : List ℕ) → ((k : ℕ) → IsIn k xs → p k ≡ q k) → filter p xs ≡ filter q xs
filter_on p q [] same = refl
filter_on p q (x ∷ xs) same =
    rw (same x (inl refl)) (ap (λ ys. cond (q x) (x ∷ ys) ys) (filter_on p q xs (λ k found. same k (inr found))))

pub filter_append : {X : Type 0} (p : X → Bool) (xs ys : List X) → filter p (xs ++ ys) ≡ filter p xs ++ filter p ys
filter_append p [] ys = refl
filter_append p (x ∷ xs) ys =
    elim (p x) as (λ b. cond b (x ∷ filter p (xs ++ ys)) (filter p (xs ++ ys)) ≡ cond b (x ∷ filter p xs) (filter p xs) ++ filter p ys) [
      | true ↦ ap (λ zs. x ∷ zs) (filter_append p xs ys)
      | false ↦ filter_append p xs ys
    ]

-- two tests, one after the other, in either order
pub filter_swap : {X : Type 0} (p q : X → Bool) (xs : List X) → filter p (filter q xs) ≡ filter q (filter p xs)
filter_swap p q [] = refl
filter_swap p q (x ∷ xs) =
    elim (p x) as (λ b. b ≡ p x → filter p (cond (q x) (x ∷ filter q xs) (filter q xs)) ≡ filter q (cond b (x ∷ filter p xs) (filter p xs))) [
      | true ↦ λ is_p. elim (q x) as (λ d. d ≡ q x → filter p (cond d (x ∷ filter q xs) (filter q xs)) ≡ cond (q x) (x ∷ filter q (filter p xs)) (filter q (filter p xs))) [
        | true ↦ λ is_q. cond-true (p x) _ _ (sym is_p) ∙ ap (λ zs. x ∷ zs) (filter_swap p q xs) ∙ sym (cond-true (q x) _ _ (sym is_q))
        | false ↦ λ is_q. filter_swap p q xs ∙ sym (cond-false (q x) _ _ (sym is_q))
      ] refl
      | false ↦ λ is_p. elim (q x) as (λ d. filter p (cond d (x ∷ filter q xs) (filter q xs)) ≡ filter q (filter p xs)) [
        | true ↦ cond-false (p x) _ _ (sym is_p) ∙ filter_swap p q xs
        | false ↦ filter_swap p q xs
      ]
    ] refl

pub concat_append : {A B : Type 0} (f : A → List B) (xs ys : List A) → concat_by f (xs ++ ys) ≡ concat_by f xs ++ concat_by f ys
concat_append f [] ys = refl
concat_append f (x ∷ xs) ys = rw (concat_append f xs ys) (sym (append_assoc (f x) (concat_by f xs) (concat_by f ys)))

pub without_append : (key : ℕ) (xs ys : List ℕ) → without key (xs ++ ys) ≡ without key xs ++ without key ys
without_append key xs ys = filter_append _ xs ys

-- each list without a number, one after the other
pub concat_without : (key : ℕ) (f : ℕ → List ℕ) (xs : List ℕ) → concat_by (λ k. without key (f k)) xs ≡ without key (concat_by f xs)
concat_without key f [] = refl
concat_without key f (x ∷ xs) = rw (concat_without key f xs) (sym (without_append key (f x) (concat_by f xs)))

-- one that gives nothing leaves no trace
pub concat_without_one : {B : Type 0} (f : ℕ → List B) (key : ℕ) (xs : List ℕ) → f key ≡ [] → concat_by f (without key xs) ≡ concat_by f xs
concat_without_one f key [] empty = refl
concat_without_one f key (x ∷ xs) empty =
    elim (cases_eq x key) [
      | inl same ↦ ap (concat_by f) (without_head key x xs same) ∙ concat_without_one f key xs empty ∙ ap (λ ys. ys ++ concat_by f xs) (sym empty ∙ ap f (sym same))
      | inr differs ↦ ap (concat_by f) (without_past key x xs differs) ∙ ap (λ ys. f x ++ ys) (concat_without_one f key xs empty)
    ]

pub IsIn_append_left : (k : ℕ) (xs ys : List ℕ) → IsIn k xs → IsIn k (xs ++ ys)
IsIn_append_left k [] ys found = absurd found
IsIn_append_left k (x ∷ xs) ys found = elim found [ inl here ↦ inl here | inr there ↦ inr (IsIn_append_left k xs ys there) ]

pub IsIn_append_cases : (k : ℕ) (xs ys : List ℕ) → IsIn k (xs ++ ys) → IsIn k xs ⊎ IsIn k ys
IsIn_append_cases k [] ys found = inr found
IsIn_append_cases k (x ∷ xs) ys found =
    elim found [
      | inl here ↦ inl (inl here)
      | inr there ↦ elim (IsIn_append_cases k xs ys there) [ inl left ↦ inl (inr left) | inr right ↦ inr right ]
    ]

-- what all of them give comes from one
pub IsIn_concat : (k : ℕ) (f : ℕ → List ℕ) (xs : List ℕ) → IsIn k (concat_by f xs) → (x : ℕ) × IsIn x xs × IsIn k (f x)
IsIn_concat k f [] found = absurd found
IsIn_concat k f (x ∷ xs) found =
    elim (IsIn_append_cases k (f x) (concat_by f xs) found) [
      | inl here ↦ (x, inl refl, here)
      | inr there ↦ let later = IsIn_concat k f xs there in (later.0, inr later.1, later.2)
    ]

pub map_append : {A B : Type 0} (f : A → B) (xs ys : List A) → map f (xs ++ ys) ≡ map f xs ++ map f ys
map_append f [] ys = refl
map_append f (x ∷ xs) ys = ap (λ zs. f x ∷ zs) (map_append f xs ys)

pub map_map : {A B C : Type 0} (f : A → B) (g : B → C) (xs : List A) → map g (map f xs) ≡ map (λ x. g (f x)) xs
map_map f g [] = refl
map_map f g (x ∷ xs) = ap (λ ys. g (f x) ∷ ys) (map_map f g xs)

pub map_self : (f : ℕ → ℕ) (xs : List ℕ) → ((k : ℕ) → f k ≡ k) → map f xs ≡ xs
map_self f [] same = refl
map_self f (x ∷ xs) same = rw (same x, map_self f xs same) refl

-- a test after a function
pub filter_map : {A B : Type 0} (f : A → B) (p : B → Bool) (xs : List A) → filter p (map f xs) ≡ map f (filter (λ x. p (f x)) xs)
filter_map f p [] = refl
filter_map f p (x ∷ xs) =
    elim (p (f x)) as (λ b. cond b (f x ∷ filter p (map f xs)) (filter p (map f xs)) ≡ map f (cond b (x ∷ filter (λ y. p (f y)) xs) (filter (λ y. p (f y)) xs))) [
      | true ↦ ap (λ ys. f x ∷ ys) (filter_map f p xs)
      | false ↦ filter_map f p xs
    ]

-- a list that ends under a function ends
pub map_last : {A B : Type 0} (f : A → B) (xs : List A) (front : List B) (last : B) → map f xs ≡ front ++ last ∷ [] → (ys : List A) × (y : A) × (xs ≡ ys ++ y ∷ []) × (f y ≡ last)
map_last f [] [] last same = absurd (cc)
map_last f [] (b ∷ front) last same = absurd (cc)
map_last f (x ∷ []) [] last same = let e : f x ≡ last = cc in ([], x, refl, e)
map_last f (x ∷ []) (b ∷ []) last same = absurd (cc)
map_last f (x ∷ []) (b ∷ c ∷ front) last same = absurd (cc)
map_last f (x ∷ y ∷ xs) [] last same = absurd (cc)
map_last f (x ∷ y ∷ xs) (b ∷ front) last same =
    let rest : map f (y ∷ xs) ≡ front ++ last ∷ [] = cc in
    let later = map_last f (y ∷ xs) front last rest in
    (x ∷ later.0, later.1, ap (λ zs. x ∷ zs) later.2, later.3)

pub IsIn_filter : (p : ℕ → Bool) (k : ℕ) (xs : List ℕ) → IsIn k (filter p xs) → IsIn k xs
IsIn_filter p k [] found = found
IsIn_filter p k (x ∷ xs) found =
    elim (p x) as (λ b. IsIn k (cond b (x ∷ filter p xs) (filter p xs)) → IsIn k (x ∷ xs)) [
      | true ↦ λ here. elim here [ inl head ↦ inl head | inr there ↦ inr (IsIn_filter p k xs there) ]
      | false ↦ λ there. inr (IsIn_filter p k xs there)
    ] found

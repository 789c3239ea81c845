-- A name more in a table, and one value more of a name.
use Rattle.std.proofs.Common.{◌≡◌, ◌≢◌, ◌<◌, ℕ, zero, suc, Bool, true, false, List, [], ◌∷◌, ◌++◌, length, slice_get, set, get_or, Vec, Global, Option, Some, None, refl, sym, ap, subst, ◌∙◌, if◌then◌else◌, arith}
use Rattle.std.proofs.lemmas.List.{append-nil, get_or-set_same, length-set}
use Rattle.std.proofs.lemmas.Option.{slice_get-get_or}
use Rattle.std.proofs.lemmas.Slice.Eq.{bytes_eq-Decides}
use Rattle.std.specs.Option.{option_and_then, option_map_or, option_or}
use Rattle.std.specs.Str.{bytes_eq}
use Rattle.name_table.specs.Places.{first_place, noted, nowhere}
use Rattle.test_meaning.specs.Rules.Names.{Name, only_if}
use Rattle.test_refusal.specs.Makers.Numbered.{AreNumbers}
use Rattle.test_file.specs.List.Tables.{list_at, value_at, with_value}

same_name : (m n : Name) → bytes_eq m n ≡ true → m ≡ n
same_name m n h = (bytes_eq-Decides m n).0 h

pub no_value : {T : Type 0} (numbers : List (List ℕ × ℕ)) (values : List T) (n : Name) → first_place numbers ≡ nowhere → value_at numbers values n ≡ None
no_value {T} numbers values n e = ap (λ (s : List ℕ → Option ℕ). option_and_then (slice_get values) (s n)) e

-- ---- a name more

-- what stands behind a list
first_behind : {A : Type 0} (xs : List A) (y : A) (rest : List A) → slice_get (xs ++ y ∷ rest) (length xs) ≡ Some y
first_behind [] y rest = refl
first_behind (x ∷ xs) y rest = first_behind xs y rest

still_there : {A : Type 0} (xs ys : List A) (i : ℕ) → i < length xs → slice_get (xs ++ ys) i ≡ slice_get xs i
still_there [] ys i h = absurd (omega (arith, h))
still_there (x ∷ xs) ys zero h = refl
still_there (x ∷ xs) ys (suc i) h = still_there xs ys i (omega (arith, h))

-- what stands in a list counts before others
within_counts : {A : Type 0} (xs : List A) (i : ℕ) (o : Option A) → i < length xs → slice_get xs i ≡ option_or (slice_get xs i) o
within_counts [] i o h = absurd (omega (arith, h))
within_counts (x ∷ xs) zero o h = refl
within_counts (x ∷ xs) (suc i) o h = within_counts xs i o (omega (arith, h))

unchanged : {A : Type 0} (o : Option A) → o ≡ option_or o None
unchanged None = refl
unchanged (Some a) = refl

more_at : {T : Type 0} (values : List T) (x : T) (o : Option ℕ) (b : Bool) → ((i : ℕ) → o ≡ Some i → i < length values)
    → option_and_then (slice_get (values ++ x ∷ [])) (option_or o (if b then Some (length values) else None))
    ≡ option_or (option_and_then (slice_get values) o) (if b then Some x else None)
more_at values x None true h = first_behind values x []
more_at values x None false h = refl
more_at values x (Some i) b h = still_there values (x ∷ []) i (h i refl) ∙ within_counts values i (if b then Some x else None) (h i refl)

pub value_added : {T : Type 0} (numbers more : List (List ℕ × ℕ)) (values : List T) (x : T) (m : Name) (k : ℕ) → AreNumbers numbers (length values) → k ≡ length values
    → ((n : List ℕ) → first_place more n ≡ noted m k (first_place numbers) n)
    → (n : Name) → value_at more (values ++ x ∷ []) n ≡ with_value m x (value_at numbers values) n
value_added numbers more values x m k are e is n =
    ap (λ (o : Option ℕ). option_and_then (slice_get (values ++ x ∷ [])) o) (is n ∙ ap (λ j. noted m j (first_place numbers) n) e)
    ∙ more_at values x (first_place numbers n) (bytes_eq n m) (λ i h. are.below n i h)

-- a name that has a value keeps it
pub value_kept : {T : Type 0} (numbers : List (List ℕ × ℕ)) (values : List T) (x : T) (m : Name) (k : ℕ) → AreNumbers numbers (length values)
    → first_place numbers m ≡ Some k → (n : Name) → value_at numbers values n ≡ with_value m x (value_at numbers values) n
value_kept {T} numbers values x m k are is n = go (bytes_eq n m) refl
  where
    go : (b : Bool) → bytes_eq n m ≡ b → value_at numbers values n ≡ option_or (value_at numbers values n) (if b then Some x else None)
    go false e = unchanged (value_at numbers values n)
    go true e =
        let there : first_place numbers n ≡ Some k = ap (λ (l : Name). first_place numbers l) (same_name n m e) ∙ is in
        subst (λ (o : Option ℕ). option_and_then (slice_get values) o ≡ option_or (option_and_then (slice_get values) o) (Some x)) (sym there)
        (within_counts values k (Some x) (are.below m k is))

-- ---- one value more of a name

set_other : {A : Type 0} (xs : List A) (k i : ℕ) (x : A) → i ≢ k → slice_get (set xs k x) i ≡ slice_get xs i
set_other [] k i x h = refl
set_other (y ∷ xs) zero zero x h = absurd (h refl)
set_other (y ∷ xs) zero (suc i) x h = refl
set_other (y ∷ xs) (suc k) zero x h = refl
set_other (y ∷ xs) (suc k) (suc i) x h = set_other xs k i x (λ e. h (ap (λ j. suc j) e))

abbrev items_of : {T : Type 0} → Option (Vec T Global) → List T
items_of o = option_map_or (λ v. v.items) o []

pub list_changed : {T : Type 0} (numbers : List (List ℕ × ℕ)) (values : List (Vec T Global)) (k : ℕ) (m : Name) (old new : Vec T Global) (x : T)
    → AreNumbers numbers (length values) → first_place numbers m ≡ Some k → old ≡ get_or values k old → new.items ≡ old.items ++ x ∷ []
    → (n : Name) → list_at numbers (set values k new) n ≡ list_at numbers values n ++ only_if (bytes_eq n m) x
list_changed {T} numbers values k m old new x are is e w n = go (bytes_eq n m) refl (first_place numbers n) refl
  where
    within : k < length values
    within = are.below m k is

    stored : slice_get (set values k new) k ≡ Some new
    stored = slice_get-get_or (set values k new) k new (rw length-set within) ∙ ap (λ a. Some a) (get_or-set_same values k new new within)

    was : slice_get values k ≡ Some old
    was = slice_get-get_or values k old within ∙ ap (λ a. Some a) (sym e)

    other : (i : ℕ) → bytes_eq n m ≡ false → first_place numbers n ≡ Some i → i ≢ k
    other i f g j =
        let same : n ≡ m = are.apart n m k (g ∙ ap (λ h. Some h) j) is in
        let yes : bytes_eq n m ≡ true = (bytes_eq-Decides n m).1 same in
        absurd (cc)

    go : (b : Bool) → bytes_eq n m ≡ b → (o : Option ℕ) → first_place numbers n ≡ o
        → list_at numbers (set values k new) n ≡ list_at numbers values n ++ only_if b x
    go true f o g =
        let there : first_place numbers n ≡ Some k = ap (λ (l : Name). first_place numbers l) (same_name n m f) ∙ is in
        subst (λ (p : Option ℕ). items_of (option_and_then (slice_get (set values k new)) p) ≡ items_of (option_and_then (slice_get values) p) ++ x ∷ []) (sym there)
        (ap (λ (p : Option (Vec T Global)). items_of p) stored ∙ w ∙ ap (λ (p : Option (Vec T Global)). items_of p ++ x ∷ []) (sym was))
    go false f None g =
        subst (λ (p : Option ℕ). items_of (option_and_then (slice_get (set values k new)) p) ≡ items_of (option_and_then (slice_get values) p) ++ []) (sym g) refl
    go false f (Some i) g =
        subst (λ (p : Option ℕ). items_of (option_and_then (slice_get (set values k new)) p) ≡ items_of (option_and_then (slice_get values) p) ++ []) (sym g)
        (ap (λ (p : Option (Vec T Global)). items_of p) (set_other values k i new (other i f g)) ∙ sym (append-nil (items_of (slice_get values i))))

-- an empty list more
emptied : {T : Type 0} (o : Option (Vec T Global)) (none : Vec T Global) (b : Bool) → none.items ≡ [] → items_of (option_or o (if b then Some none else None)) ≡ items_of o
emptied None none true h = h
emptied None none false h = refl
emptied (Some v) none b h = refl

pub list_kept : {T : Type 0} (numbers more : List (List ℕ × ℕ)) (values longer : List (Vec T Global)) (none : Vec T Global) (m : Name) → none.items ≡ []
    → ((n : Name) → value_at more longer n ≡ with_value m none (value_at numbers values) n) → (n : Name) → list_at more longer n ≡ list_at numbers values n
list_kept {T} numbers more values longer none m h is n =
    ap (λ (o : Option (Vec T Global)). items_of o) (is n) ∙ emptied (value_at numbers values n) none (bytes_eq n m) h

-- The numbers of factories' names.
use Rattle.std.proofs.Common.{◌≡◌, ◌≢◌, ◌≤◌, ◌<◌, ◌+◌, ℕ, zero, suc, ◌||◌, Bool, true, false, List, [], ◌∷◌, ◌++◌, length, slice_get, set, get_or, Option, Some, None, refl, sym, ap, subst, ◌∙◌, if◌then◌else◌, arith, ◌⊎◌, inl, inr}
use Rattle.std.proofs.lemmas.List.{append-nil, get_or-set_same, length-set}
use Rattle.std.proofs.lemmas.Option.{slice_get-get_or}
use Rattle.std.proofs.lemmas.Slice.Eq.{bytes_eq-Decides}
use Rattle.std.specs.Option.{option_and_then, option_or}
use Rattle.std.specs.Str.{bytes_eq}
use Rattle.test_meaning.specs.Factory.Product.{Choice}
use Rattle.name_table.specs.Places.{first_place, noted, nowhere}
use Rattle.test_meaning.specs.Rules.Names.{Name, only_if}
use Rattle.test_refusal.specs.Makers.Numbered.{AreNumbers}
use Rattle.test_refusal.specs.Makers.SoFar.{IsAdded, IsAddedAt, added_at, with_choice, with_tests}
use Rattle.test_refusal.specs.declared.makers.added.Added.{Added}

same_name : (m n : Name) → bytes_eq m n ≡ true → m ≡ n
same_name m n h = (bytes_eq-Decides m n).0 h

own_name : (n : Name) → bytes_eq n n ≡ true
own_name n = (bytes_eq-Decides n n).1 refl

some_same : {A : Type 0} (a b : A) → Some a ≡ Some b → a ≡ b
some_same a b e = cc

-- no name has a number yet
pub no_numbers : (numbers : List (List ℕ × ℕ)) (k : ℕ) → first_place numbers ≡ nowhere → AreNumbers numbers k
no_numbers numbers k e = record {
  below = λ n i h. let none : first_place numbers n ≡ None = ap (λ (s : List ℕ → Option ℕ). s n) e in absurd (cc);
  apart = λ n m i h g. let none : first_place numbers n ≡ None = ap (λ (s : List ℕ → Option ℕ). s n) e in absurd (cc);
}

pub nothing_added : (numbers : List (List ℕ × ℕ)) (added : List Added) (cs : List Choice) (g : Bool) (n : Name) → first_place numbers ≡ nowhere → cs ≡ [] → g ≡ false
    → IsAddedAt cs g (added_at numbers added n)
nothing_added numbers added cs g n e none not_generated =
    subst (λ (o : Option ℕ). IsAddedAt cs g (option_and_then (slice_get added) o)) (sym (ap (λ (s : List ℕ → Option ℕ). s n) e)) (none, not_generated)

-- ---- a name more

-- what stands behind a list
first_behind : {A : Type 0} (xs : List A) (y : A) (rest : List A) → slice_get (xs ++ y ∷ rest) (length xs) ≡ Some y
first_behind [] y rest = refl
first_behind (x ∷ xs) y rest = first_behind xs y rest

still_there : {A : Type 0} (xs ys : List A) (i : ℕ) → i < length xs → slice_get (xs ++ ys) i ≡ slice_get xs i
still_there [] ys i h = absurd (omega (arith, h))
still_there (x ∷ xs) ys zero h = refl
still_there (x ∷ xs) ys (suc i) h = still_there xs ys i (omega (arith, h))

added_more : (added : List Added) (new : Added) (cs : List Choice) (g : Bool) (o : Option ℕ) (b : Bool) → IsAdded [] false new → ((i : ℕ) → o ≡ Some i → i < length added)
    → IsAddedAt cs g (option_and_then (slice_get added) o)
    → IsAddedAt cs g (option_and_then (slice_get (added ++ new ∷ [])) (option_or o (if b then Some (length added) else None)))
added_more added new cs g None true is h (none, no_tests) =
    subst (λ (a : Option Added). IsAddedAt cs g a) (sym (first_behind added new []))
    (subst (λ (ds : List Choice). IsAdded ds g new) (sym none) (subst (λ (b : Bool). IsAdded [] b new) (sym no_tests) is))
added_more added new cs g None false is h old = old
added_more added new cs g (Some i) b is h old = subst (λ (a : Option Added). IsAddedAt cs g a) (sym (still_there added (new ∷ []) i (h i refl))) old

pub name_added : (numbers more : List (List ℕ × ℕ)) (added : List Added) (new : Added) (m : Name) (k : ℕ) → AreNumbers numbers (length added) → k ≡ length added
    → ((n : List ℕ) → first_place more n ≡ noted m k (first_place numbers) n) → IsAdded [] false new
    → (cs : Name → List Choice) (g : Name → Bool) → ((n : Name) → IsAddedAt (cs n) (g n) (added_at numbers added n))
    → (n : Name) → IsAddedAt (cs n) (g n) (added_at more (added ++ new ∷ []) n)
name_added numbers more added new m k are e is fresh cs g old n =
    subst (λ (o : Option ℕ). IsAddedAt (cs n) (g n) (option_and_then (slice_get (added ++ new ∷ [])) o)) (sym (is n ∙ ap (λ j. noted m j (first_place numbers) n) e))
    (added_more added new (cs n) (g n) (first_place numbers n) (bytes_eq n m) fresh (λ i h. are.below n i h) (old n))

pub its_number : (numbers more : List (List ℕ × ℕ)) (m : Name) (k : ℕ) → first_place numbers m ≡ None
    → ((n : List ℕ) → first_place more n ≡ noted m k (first_place numbers) n) → first_place more m ≡ Some k
its_number numbers more m k none is =
    is m ∙ ap (λ (o : Option ℕ). option_or o (if bytes_eq m m then Some k else None)) none ∙ ap (λ b. if b then Some k else None) (own_name m)

-- the number is an old one, or the new one of the new name
number_of : (o : Option ℕ) (b : Bool) (k i : ℕ) → option_or o (if b then Some k else None) ≡ Some i → (o ≡ Some i) ⊎ ((b ≡ true) × (k ≡ i))
number_of (Some j) b k i e = inl e
number_of None true k i e = inr (refl, some_same k i e)
number_of None false k i e = cc

pub numbers_more : (numbers more : List (List ℕ × ℕ)) (k : ℕ) (m : Name) → AreNumbers numbers k → ((n : List ℕ) → first_place more n ≡ noted m k (first_place numbers) n)
    → AreNumbers more (suc k)
numbers_more numbers more k m are is = record {
  below = λ n i h. low n i (number_of (first_place numbers n) (bytes_eq n m) k i (sym (is n) ∙ h));
  apart = λ n l i h g. alone n l i (number_of (first_place numbers n) (bytes_eq n m) k i (sym (is n) ∙ h)) (number_of (first_place numbers l) (bytes_eq l m) k i (sym (is l) ∙ g));
}
  where
    low : (n : Name) (i : ℕ) → (first_place numbers n ≡ Some i) ⊎ ((bytes_eq n m ≡ true) × (k ≡ i)) → i < suc k
    low n i (inl h) = let lt : i < k = are.below n i h in omega (arith, lt)
    low n i (inr (b, e)) = omega (arith, e)

    alone : (n l : Name) (i : ℕ) → (first_place numbers n ≡ Some i) ⊎ ((bytes_eq n m ≡ true) × (k ≡ i))
        → (first_place numbers l ≡ Some i) ⊎ ((bytes_eq l m ≡ true) × (k ≡ i)) → n ≡ l
    alone n l i (inl h) (inl g) = are.apart n l i h g
    alone n l i (inl h) (inr (b, e)) = let lt : i < k = are.below n i h in absurd (omega (arith, lt, e))
    alone n l i (inr (b, e)) (inl g) = let lt : i < k = are.below l i g in absurd (omega (arith, lt, e))
    alone n l i (inr (b, e)) (inr (c, d)) = same_name n m b ∙ sym (same_name l m c)

-- ---- one of them changes

set_other : {A : Type 0} (xs : List A) (k i : ℕ) (x : A) → i ≢ k → slice_get (set xs k x) i ≡ slice_get xs i
set_other [] k i x h = refl
set_other (y ∷ xs) zero zero x h = absurd (h refl)
set_other (y ∷ xs) zero (suc i) x h = refl
set_other (y ∷ xs) (suc k) zero x h = refl
set_other (y ∷ xs) (suc k) (suc i) x h = set_other xs k i x (λ e. h (ap (λ j. suc j) e))

pub one_changed : (P Q : Name → Option Added → Type 0) (numbers : List (List ℕ × ℕ)) (added : List Added) (k : ℕ) (m : Name) (new : Added)
    → AreNumbers numbers (length added) → first_place numbers m ≡ Some k → (P m (slice_get added k) → Q m (Some new))
    → ((n : Name) → bytes_eq m n ≡ false → (o : Option Added) → P n o → Q n o)
    → ((n : Name) → P n (added_at numbers added n)) → (n : Name) → Q n (added_at numbers (set added k new) n)
one_changed P Q numbers added k m new are is step same old n = go (bytes_eq m n) refl (first_place numbers n) refl
  where
    within : k < length added
    within = are.below m k is

    stored : slice_get (set added k new) k ≡ Some new
    stored = slice_get-get_or (set added k new) k new (rw length-set within) ∙ ap (λ a. Some a) (get_or-set_same added k new new within)

    -- another name has another number
    other : (i : ℕ) → bytes_eq m n ≡ false → first_place numbers n ≡ Some i → i ≢ k
    other i e w j =
        let same : m ≡ n = are.apart m n k is (w ∙ ap (λ h. Some h) j) in
        let yes : bytes_eq m n ≡ true = subst (λ (l : Name). bytes_eq m l ≡ true) same (own_name m) in
        absurd (cc)

    -- what stands at another number
    kept : (i : ℕ) → i ≢ k → slice_get (set added k new) i ≡ slice_get added i
    kept i h = set_other added k i new h

    go : (b : Bool) → bytes_eq m n ≡ b → (o : Option ℕ) → first_place numbers n ≡ o → Q n (option_and_then (slice_get (set added k new)) (first_place numbers n))
    go true e o w =
        let same : m ≡ n = same_name m n e in
        subst (λ (l : Name). Q l (option_and_then (slice_get (set added k new)) (first_place numbers l))) same
        (subst (λ (p : Option ℕ). Q m (option_and_then (slice_get (set added k new)) p)) (sym is)
        (subst (λ (a : Option Added). Q m a) (sym stored) (step (subst (λ (p : Option ℕ). P m (option_and_then (slice_get added) p)) is (old m)))))
    go false e None w =
        subst (λ (p : Option ℕ). Q n (option_and_then (slice_get (set added k new)) p)) (sym w)
        (same n e None (subst (λ (p : Option ℕ). P n (option_and_then (slice_get added) p)) w (old n)))
    go false e (Some i) w =
        subst (λ (p : Option ℕ). Q n (option_and_then (slice_get (set added k new)) p)) (sym w)
        (subst (λ (a : Option Added). Q n a) (sym (kept i (other i e w)))
        (same n e (slice_get added i) (subst (λ (p : Option ℕ). P n (option_and_then (slice_get added) p)) w (old n))))

or_true : (a : Bool) → (a || true) ≡ true
or_true true = refl
or_true false = refl

or_none : (a : Bool) → (a || false) ≡ a
or_none true = refl
or_none false = refl

-- what stands at the number of a name
read : (added : List Added) (k : ℕ) (old : Added) → k < length added → old ≡ get_or added k old → slice_get added k ≡ Some old
read added k old h e = slice_get-get_or added k old h ∙ ap (λ a. Some a) (sym e)

pub option_added : (numbers : List (List ℕ × ℕ)) (added : List Added) (k : ℕ) (m : Name) (old new : Added) (c : Choice) (cs : Name → List Choice) (g : Name → Bool)
    → AreNumbers numbers (length added) → first_place numbers m ≡ Some k → old ≡ get_or added k old → (IsAdded (cs m) (g m) old → IsAdded (cs m ++ c ∷ []) (g m) new)
    → ((n : Name) → IsAddedAt (cs n) (g n) (added_at numbers added n)) → (n : Name) → IsAddedAt (with_choice m c cs n) (g n) (added_at numbers (set added k new) n)
option_added numbers added k m old new c cs g are is e step =
    one_changed (λ n a. IsAddedAt (cs n) (g n) a) (λ n a. IsAddedAt (with_choice m c cs n) (g n) a) numbers added k m new are is
    (λ h. subst (λ b. IsAdded (cs m ++ only_if b c) (g m) new) (sym (own_name m)) (step (subst (λ (a : Option Added). IsAddedAt (cs m) (g m) a) (read added k old (are.below m k is) e) h)))
    (λ n other a h. subst (λ (l : List Choice). IsAddedAt l (g n) a) (sym (ap (λ b. cs n ++ only_if b c) other ∙ append-nil (cs n))) h)

pub tests_added : (numbers : List (List ℕ × ℕ)) (added : List Added) (k : ℕ) (m : Name) (old new : Added) (cs : Name → List Choice) (g : Name → Bool)
    → AreNumbers numbers (length added) → first_place numbers m ≡ Some k → old ≡ get_or added k old → (IsAdded (cs m) (g m) old → IsAdded (cs m) true new)
    → ((n : Name) → IsAddedAt (cs n) (g n) (added_at numbers added n)) → (n : Name) → IsAddedAt (cs n) (with_tests m g n) (added_at numbers (set added k new) n)
tests_added numbers added k m old new cs g are is e step =
    one_changed (λ n a. IsAddedAt (cs n) (g n) a) (λ n a. IsAddedAt (cs n) (with_tests m g n) a) numbers added k m new are is
    (λ h. subst (λ (b : Bool). IsAdded (cs m) b new) (sym (ap (λ b. g m || b) (own_name m) ∙ or_true (g m))) (step (subst (λ (a : Option Added). IsAddedAt (cs m) (g m) a) (read added k old (are.below m k is) e) h)))
    (λ n other a h. subst (λ (b : Bool). IsAddedAt (cs n) b a) (sym (ap (λ b. g n || b) other ∙ or_none (g n))) h)

-- How many cases a factory has, and which one has which number.
use Rattle.std.proofs.Common.{◌≡◌, refl, subst, append_assoc, ◌∙◌, ap, sym, arith, ◌⊎◌, inl, inr}
use Rattle.std.specs.Prelude.{ℕ, zero, min, ◌+◌, suc, slice_get, Option, Some, ◌*◌, ◌/◌, ◌%◌, ◌-◌, ◌<◌, ◌≤◌, slice_index_or, List, [], ◌∷◌, ◌++◌, length, map}
use Rattle.std.specs.List.{flat_map}
use Rattle.std.proofs.Math.ListN.{drop, get_or}
use Rattle.std.proofs.Math.Seq.{drop-cons}
use Rattle.std.proofs.Math.Numerals.{add-one}
use Rattle.std.specs.declared.vec.Vec.{Vec}
use Rattle.std.proofs.lemmas.List.{drop-map, drop_all, map-append, append-nil, length-map, length-append, get_or_append_left, get_or-append_right, get_or-map}
use Rattle.std.proofs.lemmas.Bool.{cases_order}
use Rattle.std.proofs.lemmas.Option.{slice_get-get_or}
use Rattle.std.proofs.lemmas.Grind.{get_or_tail}
use Rattle.std.proofs.Math.Nat.{min-eq_left, mul-zero, zero-mul, mul-suc, mul_assoc, div-lt_iff_lt-mul, mul-div_cancel_left, div-eq_of_lt, mod-eq_of_lt, div-eq-sub-div, mod-eq-sub-mod, mod-lt}
use Rattle.py_syntax.specs.declared.constant.Const.{Const}
use Rattle.py_syntax.specs.declared.constant.Const.TheVariants.{Absent}
use Rattle.test_meaning.specs.Factory.Options.{choice, choices}
use Rattle.test_meaning.specs.Factory.Product.{Choice, Chosen, product, case_count, with_first, case_at}

pieces : (n : List ℕ) (rest : List (List Chosen)) (k : ℕ) → length rest ≡ k → (cs : List Const) → length (flat_map (with_first n rest) cs) ≡ length cs * k
pieces n rest k e [] = omega arith
pieces n rest k e (c ∷ cs) =
    let a = length-append (with_first n rest c) (flat_map (with_first n rest) cs) in
    let b = length-map rest (λ xs. record { name = n; value = c } ∷ xs) in
    let f = pieces n rest k e cs in
    omega (arith, a, b, e, f)

pub count_is_length : (os : List Choice) → length (product os) ≡ case_count os
count_is_length [] = refl
count_is_length (o ∷ os) = pieces o.name (product os) (case_count os) (count_is_length os) o.values

below : {i k : ℕ} → (i ≡ k) ⊎ ((i < k) ⊎ (k < i)) → (i < k) ⊎ (k ≤ i)
below (inl e) = inr (omega (arith, e))
below (inr (inl h)) = inl h
below (inr (inr h)) = inr (omega (arith, h))

-- the i-th of all pieces is in the piece i / k, of which it is number i % k
at_piece : (n : List ℕ) (rest : List (List Chosen)) (k : ℕ) → length rest ≡ k → (c : Const) (cs : List Const) (i : ℕ) (z : Const) (d : List Chosen)
    → ((j : ℕ) → j < length cs * k → slice_index_or (flat_map (with_first n rest) cs) j d ≡ record { name = n; value = slice_index_or cs (j / k) z } ∷ slice_index_or rest (j % k) d)
    → i < length (c ∷ cs) * k → zero < k → (i < k) ⊎ (k ≤ i)
    → slice_index_or (flat_map (with_first n rest) (c ∷ cs)) i d ≡ record { name = n; value = slice_index_or (c ∷ cs) (i / k) z } ∷ slice_index_or rest (i % k) d
at_piece n rest k e c cs i z d later lt pos (inl h) =
    let m = length-map rest (λ (xs : List Chosen). record { name = n; value = c } ∷ xs) in
    get_or_append_left (with_first n rest c) (flat_map (with_first n rest) cs) d i (omega (arith, m, e, h))
    ∙ get_or-map (λ (xs : List Chosen). record { name = n; value = c } ∷ xs) rest i d d (omega (arith, e, h))
    ∙ ap (λ (j : ℕ). record { name = n; value = c } ∷ slice_index_or rest j d) (sym (mod-eq_of_lt h))
    ∙ ap (λ (j : ℕ). record { name = n; value = slice_index_or (c ∷ cs) j z } ∷ slice_index_or rest (i % k) d) (sym (div-eq_of_lt h))
at_piece n rest k e c cs i z d later lt pos (inr h) =
    let m = length-map rest (λ (xs : List Chosen). record { name = n; value = c } ∷ xs) in
    let q = div-eq-sub-div pos h in
    get_or-append_right (with_first n rest c) (flat_map (with_first n rest) cs) k i d (m ∙ e) h
    ∙ later (i - k) (omega (arith, lt, h))
    ∙ ap (λ (j : ℕ). record { name = n; value = slice_index_or cs ((i - k) / k) z } ∷ slice_index_or rest j d) (sym (mod-eq-sub-mod h))
    ∙ ap (λ (v : Const). record { name = n; value = v } ∷ slice_index_or rest (i % k) d)
    (sym (get_or_tail c cs (i / k) z (omega (arith, q)) ∙ ap (λ (j : ℕ). slice_index_or cs j z) (omega (arith, q))))

element : (n : List ℕ) (rest : List (List Chosen)) (k : ℕ) → length rest ≡ k → (cs : List Const) (i : ℕ) (z : Const) (d : List Chosen) → zero < k → i < length cs * k
    → slice_index_or (flat_map (with_first n rest) cs) i d ≡ record { name = n; value = slice_index_or cs (i / k) z } ∷ slice_index_or rest (i % k) d
element n rest k e [] i z d pos lt = absurd (omega (arith, lt))
element n rest k e (c ∷ cs) i z d pos lt =
    at_piece n rest k e c cs i z d (λ j h. element n rest k e cs j z d pos h) lt pos (below (cases_order i k))

first : {A : Type 0} (x d : A) (i : ℕ) → i < 1 → slice_index_or (x ∷ []) i d ≡ x
first x d zero h = refl
first x d (suc i) h = absurd (omega (arith, h))

positive : (a k i : ℕ) → i < a * k → zero < k
positive a zero i h = absurd (omega (arith, h))
positive a (suc k) i h = omega arith

pub case_is_element : (os : List Choice) (i : ℕ) (d : List Chosen) → i < case_count os → slice_index_or (product os) i d ≡ case_at os i
case_is_element [] i d lt = first [] d i lt
case_is_element (o ∷ os) i d lt =
    let pos = positive (length o.values) (case_count os) i lt in
    element o.name (product os) (case_count os) (count_is_length os) o.values i Absent d pos lt
    ∙ ap (λ (xs : List Chosen). record { name = o.name; value = slice_index_or o.values (i / case_count os) Absent } ∷ xs) (case_is_element os (i % case_count os) d (mod-lt i pos))

pub is_element : (os : List Choice) (i : ℕ) → i < case_count os → slice_get (product os) i ≡ Some (case_at os i)
is_element os i lt =
    let n = count_is_length os in
    slice_get-get_or (product os) i [] (omega (arith, n, lt)) ∙ ap (λ (cs : List Chosen). let r : Option (List Chosen) = Some cs in r) (case_is_element os i [] lt)

-- ---- what the code counts

capped : (a c M : ℕ) → (a ≤ M) ⊎ (M < a) → min (min a M * c) M ≡ min (a * c) M
capped a zero M h = simp mul-zero
capped a (suc c) M (inl h) = ap (λ (x : ℕ). min (x * suc c) M) (min-eq_left h)
capped a (suc c) M (inr h) =
    let e : min a M ≡ M = omega (arith, h) in
    let p : M ≤ M * suc c = rw mul-suc (omega arith) in
    let q : a ≤ a * suc c = rw mul-suc (omega arith) in
    ap (λ (x : ℕ). min (x * suc c) M) e ∙ omega (arith, p, q, h)

order : (a M : ℕ) → (a ≡ M) ⊎ ((a < M) ⊎ (M < a)) → (a ≤ M) ⊎ (M < a)
order a M (inl e) = inl (omega (arith, e))
order a M (inr (inl h)) = inl (omega (arith, h))
order a M (inr (inr h)) = inr h

-- one option more is counted
pub counted_more : (n k c M : ℕ) → min (min (n * k) M * c) M ≡ min (n * (k * c)) M
counted_more n k c M = capped (n * k) c M (order (n * k) M (cases_order (n * k) M)) ∙ ap (λ (x : ℕ). min x M) (mul_assoc n k c)

-- the option at a place, and those behind it
front_at : {Z : Type 0} (xs : List (List ℕ × Vec Const Z)) (k : ℕ) (d : List ℕ × Vec Const Z) → k < length xs
    → drop k (choices xs) ≡ choice (get_or xs k d) ∷ drop (k + 1) (choices xs)
front_at {Z} xs k d h =
    drop-map (λ (o : List ℕ × Vec Const Z). choice o) k xs ∙ ap (λ (ys : List (List ℕ × Vec Const Z)). choices ys) (drop-cons xs k d h)
    ∙ ap (λ (os : List Choice). choice (get_or xs k d) ∷ os)
    (sym (drop-map (λ (o : List ℕ × Vec Const Z). choice o) (suc k) xs) ∙ ap (λ (j : ℕ). drop j (choices xs)) (sym (add-one k)))

pub counted_at : {Z : Type 0} (xs : List (List ℕ × Vec Const Z)) (k n a b : ℕ) (o : List ℕ × Vec Const Z) (x M : ℕ) → k < length xs
    → o ≡ get_or xs k o → a ≡ length o.1.items → b ≡ min (n * a) M → min (n * case_count (drop k (choices xs))) M ≡ x
    → min (b * case_count (drop (k + 1) (choices xs))) M ≡ x
counted_at {Z} xs k n a b o x M h is p q e =
    let f = front_at xs k o h ∙ ap (λ (y : List ℕ × Vec Const Z). choice y ∷ drop (k + 1) (choices xs)) (sym is) in
    ap (λ (y : ℕ). min (y * case_count (drop (k + 1) (choices xs))) M) q
    ∙ counted_more n a (case_count (drop (k + 1) (choices xs))) M
    ∙ ap (λ (y : ℕ). min (n * (y * case_count (drop (k + 1) (choices xs)))) M) p
    ∙ ap (λ (os : List Choice). min (n * case_count os) M) (sym f) ∙ e

-- ---- what the code chooses

abbrev pub value_at : {Z : Type 0} → List ℕ × Vec Const Z → ℕ → Chosen
value_at o j = record { name = o.0; value = slice_index_or o.1.items j Absent }

-- A place among the options, where so many cases are left, of which this is the number: `case_at` goes on with the option, which has n values.
pub record Turn {Z : Type 0} (xs : List (List ℕ × Vec Const Z)) (k rest number n : ℕ) (o : List ℕ × Vec Const Z) : Type 0 where
  pub some : zero < n
  pub left : rest / n ≡ case_count (drop (k + 1) (choices xs))
  pub positive : zero < rest / n
  pub within : number / (rest / n) < length o.1.items
  pub below : number % (rest / n) < rest / n
  pub digits : case_at (drop k (choices xs)) number ≡ value_at o (number / (rest / n)) ∷ case_at (drop (k + 1) (choices xs)) (number % (rest / n))

positive_left : (a k i : ℕ) → i < a * k → zero < a
positive_left zero k i h = absurd (omega (arith, h, zero-mul k))
positive_left (suc a) k i h = omega arith

turned : {Z : Type 0} (xs : List (List ℕ × Vec Const Z)) (k rest number n : ℕ) (o : List ℕ × Vec Const Z)
    → drop k (choices xs) ≡ choice o ∷ drop (k + 1) (choices xs) → n ≡ length o.1.items
    → number < n * case_count (drop (k + 1) (choices xs)) → rest / n ≡ case_count (drop (k + 1) (choices xs))
    → zero < n → zero < case_count (drop (k + 1) (choices xs)) → Turn xs k rest number n o
turned xs k rest number n o f p h r some pos = record {
  some = some;
  left = r;
  positive = omega (arith, r, pos);
  within = subst (λ (m : ℕ). number / m < length o.1.items) (sym r) (subst (λ (m : ℕ). number / case_count (drop (k + 1) (choices xs)) < m) p
      ((div-lt_iff_lt-mul pos).1 h));
  below = subst (λ (m : ℕ). number % m < m) (sym r) (mod-lt number pos);
  digits = ap (λ (os : List Choice). case_at os number) f
      ∙ ap (λ (m : ℕ). value_at o (number / m) ∷ case_at (drop (k + 1) (choices xs)) (number % m)) (sym r);
}

pub turn_at : {Z : Type 0} (xs : List (List ℕ × Vec Const Z)) (k rest number n : ℕ) (o : List ℕ × Vec Const Z) → k < length xs
    → o ≡ get_or xs k o → n ≡ length o.1.items → rest ≡ case_count (drop k (choices xs)) → number < rest → Turn xs k rest number n o
turn_at {Z} xs k rest number n o h is p e lt =
    let f = front_at xs k o h ∙ ap (λ (y : List ℕ × Vec Const Z). choice y ∷ drop (k + 1) (choices xs)) (sym is) in
    let q : rest ≡ n * case_count (drop (k + 1) (choices xs)) =
    e ∙ ap (λ (os : List Choice). case_count os) f ∙ ap (λ (y : ℕ). y * case_count (drop (k + 1) (choices xs))) (sym p) in
    let m = subst (λ (x : ℕ). number < x) q lt in
    let some = positive_left n (case_count (drop (k + 1) (choices xs))) number m in
    turned xs k rest number n o f p m
    (ap (λ (x : ℕ). x / n) q ∙ mul-div_cancel_left (case_count (drop (k + 1) (choices xs))) some)
    some (positive n (case_count (drop (k + 1) (choices xs))) number m)

-- the digit of one option more
pub digits_more : {A : Type 0} (f : A → Chosen) (new old : List A) (p : A) (x : Chosen) (rest whole total : List Chosen)
    → new ≡ old ++ p ∷ [] → f p ≡ x → whole ≡ x ∷ rest → map f old ++ whole ≡ total → map f new ++ rest ≡ total
digits_more {A} f new old p x rest whole total e q w t =
    ap (λ (ys : List A). map f ys ++ rest) e ∙ ap (λ (ys : List Chosen). ys ++ rest) (map-append f old (p ∷ []))
    ∙ append_assoc (map f old) (f p ∷ []) rest ∙ ap (λ (y : Chosen). map f old ++ (y ∷ rest)) q
    ∙ ap (λ (ys : List Chosen). map f old ++ ys) (sym w) ∙ t

-- behind the last option
pub chosen_all : {Z : Type 0} (xs : List (List ℕ × Vec Const Z)) (os : List Choice) (k number i : ℕ) (vs : List Chosen)
    → length xs ≤ k → choices xs ≡ os → i < case_count os → vs ++ case_at (drop k (choices xs)) number ≡ case_at (choices xs) i
    → slice_get (product os) i ≡ Some vs
chosen_all {Z} xs os k number i vs past v lt e =
    let n : drop k (choices xs) ≡ [] = drop-map (λ (o : List ℕ × Vec Const Z). choice o) k xs ∙ ap (λ (ys : List (List ℕ × Vec Const Z)). choices ys) (drop_all k xs past) in
    let w : vs ≡ case_at os i =
    sym (append-nil vs) ∙ ap (λ (ys : List Choice). vs ++ case_at ys number) (sym n) ∙ e ∙ ap (λ (ys : List Choice). case_at ys i) v in
    is_element os i lt ∙ ap (λ (cs : List Chosen). let r : Option (List Chosen) = Some cs in r) (sym w)

-- The place of the first element that passes, and what stands there.
use Rattle.std.proofs.Common.{◌≡◌, ◌≤◌, ◌+◌, ℕ, zero, suc, nat_lt, Bool, true, false, ◌||◌, List, [], ◌∷◌, take, Option, Some, None, is_some, refl, sym, ap, ◌∙◌, cond, arith}
use Rattle.std.proofs.lemmas.Bool.{lt-ltb, le-ltb}
use Rattle.std.specs.List.{list_any, find, position_from, slice_get}
use Rattle.std.specs.Option.{option_and_then, option_map_or}

-- a place stands above this one
abbrev is_above : ℕ → Option ℕ → Bool
is_above k o = option_map_or (λ i. nat_lt i k) o false

-- no place is above the first
none_above : {A : Type 0} (p : A → Bool) (i j : ℕ) (xs : List A) → i ≤ j → is_above i (position_from p j xs) ≡ false
none_above p i j [] h = refl
none_above p i j (x ∷ xs) h = go (p x) (none_above p i (j + 1) xs (omega (arith, h)))
  where
    go : (b : Bool) → is_above i (position_from p (j + 1) xs) ≡ false → is_above i (cond b (Some j) (position_from p (j + 1) xs)) ≡ false
    go true more = le-ltb j i h
    go false more = more

above_from : {A : Type 0} (p : A → Bool) (xs : List A) (i k m : ℕ) → m ≡ i + k → list_any p (take k xs) ≡ is_above m (position_from p i xs)
above_from p xs i zero m e = sym (none_above p m i xs (omega (arith, e)))
above_from p [] i (suc k) m e = refl
above_from p (x ∷ xs) i (suc k) m e = go (p x) (above_from p xs (i + 1) k m (omega (arith, e)))
  where
    go : (b : Bool) → list_any p (take k xs) ≡ is_above m (position_from p (i + 1) xs)
        → (b || list_any p (take k xs)) ≡ is_above m (cond b (Some i) (position_from p (i + 1) xs))
    go true h = sym (lt-ltb i m (omega (arith, e)))
    go false h = h

pub above_by_place : {A : Type 0} (p : A → Bool) (xs : List A) (k : ℕ)
    → list_any p (take k xs) ≡ option_map_or (λ i. nat_lt i k) (position_from p 0 xs) false
above_by_place p xs k = above_from p xs 0 k k (omega arith)

any_from : {A : Type 0} (p : A → Bool) (xs : List A) (i : ℕ) → list_any p xs ≡ is_some (position_from p i xs)
any_from p [] i = refl
any_from p (x ∷ xs) i = go (p x) (any_from p xs (i + 1))
  where
    go : (b : Bool) → list_any p xs ≡ is_some (position_from p (i + 1) xs) → (b || list_any p xs) ≡ is_some (cond b (Some i) (position_from p (i + 1) xs))
    go true h = refl
    go false h = h

pub any_by_place : {A : Type 0} (p : A → Bool) (xs : List A) → list_any p xs ≡ is_some (position_from p 0 xs)
any_by_place p xs = any_from p xs 0

some_same : (i j : ℕ) → Some i ≡ Some j → i ≡ j
some_same i j e = cc

-- The element at a place, where the first of all has this one.
found_from : {A : Type 0} (p : A → Bool) (xs : List A) (j i m : ℕ) → m ≡ j + i → position_from p j xs ≡ Some m → find p xs ≡ slice_get xs i
found_from p [] j i m e h = cc
found_from p (x ∷ xs) j zero m e h = go (p x) h
  where
    go : (b : Bool) → cond b (Some j) (position_from p (j + 1) xs) ≡ Some m → cond b (Some x) (find p xs) ≡ Some x
    go true q = refl
    go false q =
        let above : nat_lt m (j + 1) ≡ true = lt-ltb m (j + 1) (omega (arith, e)) in
        let none : nat_lt m (j + 1) ≡ false = ap (λ o. is_above (j + 1) o) (sym q) ∙ none_above p (j + 1) (j + 1) xs (omega arith) in
        cc
found_from p (x ∷ xs) j (suc i) m e h = go (p x) h (found_from p xs (j + 1) i m (omega (arith, e)))
  where
    go : (b : Bool) → cond b (Some j) (position_from p (j + 1) xs) ≡ Some m
        → (position_from p (j + 1) xs ≡ Some m → find p xs ≡ slice_get xs i)
        → cond b (Some x) (find p xs) ≡ slice_get xs i
    go true q more =
        let same : j ≡ m = some_same j m q in
        let yes : nat_lt j m ≡ true = lt-ltb j m (omega (arith, e)) in
        let no : nat_lt j m ≡ false = le-ltb j m (omega (arith, same)) in
        cc
    go false q more = more q

none_found : {A : Type 0} (p : A → Bool) (xs : List A) (j : ℕ) → position_from p j xs ≡ None → find p xs ≡ None
none_found p [] j h = refl
none_found p (x ∷ xs) j h = go (p x) h (none_found p xs (j + 1))
  where
    go : (b : Bool) → cond b (Some j) (position_from p (j + 1) xs) ≡ None → (position_from p (j + 1) xs ≡ None → find p xs ≡ None)
        → cond b (Some x) (find p xs) ≡ None
    go true q more = cc
    go false q more = more q

pub found_at_place : {A : Type 0} (p : A → Bool) (xs : List A) → find p xs ≡ option_and_then (slice_get xs) (position_from p 0 xs)
found_at_place p xs = go (position_from p 0 xs) refl
  where
    go : (o : Option ℕ) → position_from p 0 xs ≡ o → find p xs ≡ option_and_then (slice_get xs) o
    go None e = none_found p xs 0 e
    go (Some i) e = found_from p xs 0 i i (omega arith) e

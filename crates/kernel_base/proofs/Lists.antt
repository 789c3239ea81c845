-- Lists of process numbers: each at most once, and none too high.
use Rattle.std.proofs.Common.{◌≡◌, ℕ, zero, suc, ◌+◌, ◌<◌, ◌≤◌, ◌==◌, ◌||◌, ◌⊎◌, Bool, true, false, if◌then◌else◌, List, [], ◌∷◌, ◌++◌, length, refl, arith, Option, None, Some, ⊎_elim}
use Rattle.std.proofs.lemmas.Grind.{common_steps}
use Rattle.std.proofs.lemmas.Bool.Decides.{nat_tests}
use Rattle.gpi.specs.Keys.{holds}
use Rattle.kernel_base.specs.Lists.{barred, AreBelow, AreDistinct}

or_parts : (a b : Bool) → (a || b) ≡ false → (a ≡ false) × (b ≡ false)
or_parts false false h = (refl, refl)
or_parts false true h = cc
or_parts true b h = cc

other_way : (m n : ℕ) → (m == n) ≡ false → (n == m) ≡ false
other_way m n h = grind (arith, nat_tests)

pub apart : (m n : ℕ) → m < n → (m == n) ≡ false
apart m n h = grind (arith, nat_tests)

pub itself : (n : ℕ) → (n == n) ≡ true
itself n = grind (arith, nat_tests)

pub holds_push : (q n : ℕ) (xs : List ℕ) → holds q (xs ++ n ∷ []) ≡ (holds q xs || (q == n))
holds_push q n [] = grind (arith, common_steps)
holds_push q n (x ∷ xs) = let h = holds_push q n xs in grind (arith, common_steps, h)

pub below_push : (count n : ℕ) (xs : List ℕ) → AreBelow count xs → n < count → AreBelow count (xs ++ n ∷ [])
below_push count n [] h k = (k, tt)
below_push count n (x ∷ xs) h k = (h.0, below_push count n xs h.1 k)

pub distinct_push : (n : ℕ) (xs : List ℕ) → AreDistinct xs → holds n xs ≡ false → AreDistinct (xs ++ n ∷ [])
distinct_push n [] d h = (refl, tt)
distinct_push n (x ∷ xs) d h =
    let p = or_parts (n == x) (holds n xs) h in
    (rw (holds_push x n xs, d.0) (other_way n x p.0), distinct_push n xs d.1 p.1)

last_or_below : (x n : ℕ) → x < suc n → (x ≡ n) ⊎ (x < n)
last_or_below x n k = grind arith

-- how many numbers below n are held
abbrev pub held : ℕ → List ℕ → ℕ
held zero xs = 0
held (suc n) xs = (if holds n xs then 1 else 0) + held n xs

one_at_most : (b : Bool) → (if b then 1 else 0) ≤ 1
one_at_most true = omega arith
one_at_most false = omega arith

pub held_at_most : (n : ℕ) (xs : List ℕ) → held n xs ≤ n
held_at_most zero xs = omega arith
held_at_most (suc n) xs = let a = one_at_most (holds n xs) in let h = held_at_most n xs in omega arith

held_none : (n : ℕ) → held n [] ≡ 0
held_none zero = refl
held_none (suc n) = let h = held_none n in omega arith

-- a number from n on counts for nothing
held_same : (n x : ℕ) (xs : List ℕ) → n ≤ x → held n (x ∷ xs) ≡ held n xs
held_same zero x xs h = refl
held_same (suc n) x xs h =
    let e = held_same n x xs (omega arith) in
    rw (apart n x (omega arith), e) refl

held_more : (n x : ℕ) (xs : List ℕ) → holds x xs ≡ false → x < n → held n (x ∷ xs) ≡ held n xs + 1
held_more zero x xs h k = absurd (omega arith)
held_more (suc n) x xs h k =
    ⊎_elim
    (λ (e : x ≡ n). let f = held_same n x xs (omega arith) in rw (f, ← e, itself x, h) (omega arith))
    (λ (l : x < n).
    let f = held_more n x xs h l in
    let a : (n == x) ≡ false = other_way x n (apart x n l) in
    rw (a, f) (omega arith))
    (last_or_below x n k)

pub held_all : (n : ℕ) (xs : List ℕ) → AreDistinct xs → AreBelow n xs → held n xs ≡ length xs
held_all n [] d b = held_none n
held_all n (x ∷ xs) d b =
    let e = held_all n xs d.1 b.1 in
    let m = held_more n x xs d.0 b.0 in
    omega arith

pub short : (n : ℕ) (xs : List ℕ) → AreDistinct xs → AreBelow n xs → length xs ≤ n
short n xs d b = let e = held_all n xs d b in let h = held_at_most n xs in omega arith

-- one more fits
pub short_more : (n x : ℕ) (xs : List ℕ) → x < n → holds x xs ≡ false → AreBelow n xs → AreDistinct xs → length xs < n
short_more n x xs k h b d =
    let s : length (x ∷ xs) ≤ n = short n (x ∷ xs) (h, d) (k, b) in
    omega arith

pub not_barred : (own : Option ℕ) (q : ℕ) (xs : List ℕ) → holds q (barred own xs) ≡ false → holds q xs ≡ false
not_barred None q xs h = h
not_barred (Some p) q xs h = (or_parts (q == p) (holds q xs) h).1

pub ruleset pushes = (below_push, distinct_push, short_more)

pub ruleset steps = (holds_push, not_barred, apart)

-- Lists in order, by their members.
use Rattle.std.proofs.Common.{◌≡◌, ℕ, zero, suc, ◌+◌, ◌<◌, ◌≤◌, ◌==◌, ◌||◌, ◌⊎◌, ⊎_elim, Bool, true, false, List, [], ◌∷◌, refl, sym, ap, subst, arith, ◌∙◌, zero-add}
use Rattle.std.specs.List.{IsDistinct, AllByRecursion, list_any}
use Rattle.std.specs.List.Sorted.{IsPermutation, IsNonDecreasing}
use Rattle.std.proofs.lemmas.List.Sorted.{list_any-IsPermutation}
use Rattle.std.proofs.lemmas.Map.Keys.{IsDistinct-IsPermutation}
use Rattle.std.proofs.lemmas.Bool.Decides.{nat_tests}
use Rattle.gpi.specs.Keys.{holds}
use Rattle.kernel_base.specs.Lists.{AreBelow, AreDistinct}
use Rattle.fast_kernel.specs.Waiters.{picked}
use Rattle.kernel_base.proofs.Lists.{itself, apart}

-- strictly rising, from n on
abbrev pub RisesFrom : ℕ → List ℕ → Type 0
RisesFrom n [] = Unit {0}
RisesFrom n (x ∷ xs) = (n ≤ x) × RisesFrom (suc x) xs

or_no : (b : Bool) → (b || false) ≡ b
or_no true = refl
or_no false = refl

above : (n q : ℕ) (xs : List ℕ) → q < n → RisesFrom n xs → holds q xs ≡ false
above n q [] h r = refl
above n q (x ∷ xs) h r = rw (apart q x (let a = r.0 in omega arith), above (suc x) q xs (let a = r.0 in omega arith) r.1) refl

other : (q n : ℕ) → n < q → (q == n) ≡ false
other q n h = grind (arith, nat_tests)

not_there : (k n : ℕ) (test : ℕ → Bool) → test n ≡ false → picked n (suc k) test ≡ picked (suc n) k test
not_there k n test h = rw h refl

is_there : (k n : ℕ) (test : ℕ → Bool) → test n ≡ true → picked n (suc k) test ≡ n ∷ picked (suc n) k test
is_there k n test h = rw h refl

first_or_more : (n x : ℕ) → n ≤ x → (x ≡ n) ⊎ (suc n ≤ x)
first_or_more n x h = grind arith

plus_one : (n k : ℕ) → n + suc k ≡ suc n + k
plus_one n k = omega arith

down : (n k : ℕ) (xs : List ℕ) → AreBelow (n + suc k) xs → AreBelow (suc n + k) xs
down n k xs b = subst (λ (m : ℕ). AreBelow m xs) (plus_one n k) b

behind_test : (q n : ℕ) (xs : List ℕ) → n < q → holds q (n ∷ xs) ≡ holds q xs
behind_test q n xs h = rw (other q n h) refl

-- a list that rises strictly is that of the numbers that it holds
pub rising_is_picked : (k n : ℕ) (xs : List ℕ) (test : ℕ → Bool) → RisesFrom n xs → AreBelow (n + k) xs
    → ((q : ℕ) → n ≤ q → q < n + k → holds q xs ≡ test q) → xs ≡ picked n k test
rising_is_picked zero n [] test r b h = refl
rising_is_picked zero n (x ∷ xs) test r b h = absurd (let a = r.0 in let c = b.0 in omega arith)
rising_is_picked (suc k) n [] test r b h =
    rising_is_picked k (suc n) [] test tt tt (λ q g l. h q (omega arith) (omega arith)) ∙ sym (not_there k n test (sym (h n (omega arith) (omega arith))))
rising_is_picked (suc k) n (x ∷ xs) test r b h =
    ⊎_elim
    (λ (e : x ≡ n).
    let t : test n ≡ true = sym (h n (omega arith) (omega arith)) ∙ rw (e, itself n) refl in
    let below : AreBelow (suc n + k) (x ∷ xs) = down n k (x ∷ xs) b in
    let rest : xs ≡ picked (suc n) k test =
    rising_is_picked k (suc n) xs test (subst (λ (m : ℕ). RisesFrom (suc m) xs) e r.1) below.1 (λ q g l. sym (ap (λ (m : ℕ). holds q (m ∷ xs)) e ∙ behind_test q n xs (omega arith)) ∙ h q (omega arith) (omega arith)) in
    rw (is_there k n test t, ← rest, e) refl)
    (λ (g : suc n ≤ x).
    let t : test n ≡ false = sym (h n (omega arith) (omega arith)) ∙ above (suc n) n (x ∷ xs) (omega arith) (g, r.1) in
    rising_is_picked k (suc n) (x ∷ xs) test (g, r.1) (down n k (x ∷ xs) b) (λ q i l. h q (omega arith) (omega arith)) ∙ sym (not_there k n test t))
    (first_or_more n x r.0)

-- ---- in order, each once

tail_rises : (x : ℕ) (xs : List ℕ) → IsNonDecreasing (x ∷ xs) → IsNonDecreasing xs
tail_rises x xs m = λ i j d h k. m (suc i) (suc j) d (omega arith) (omega arith)

or_left : (a b : Bool) → (a || b) ≡ false → a ≡ false
or_left false b h = refl
or_left true b h = cc

strictly : (x y : ℕ) → x ≤ y → (x == y) ≡ false → suc x ≤ y
strictly x y h e = grind (arith, nat_tests)

behind : (x : ℕ) (xs : List ℕ) → IsNonDecreasing (x ∷ xs) → AreDistinct (x ∷ xs) → RisesFrom (suc x) xs
behind x [] m d = tt
behind x (y ∷ ys) m d =
    let h : x ≤ y = m 0 1 0 (omega arith) (omega arith) in
    (strictly x y h (or_left (x == y) (holds x ys) d.0), behind y ys (tail_rises x (y ∷ ys) m) d.1)

pub rises : (xs : List ℕ) → IsNonDecreasing xs → AreDistinct xs → RisesFrom 0 xs
rises [] m d = tt
rises (x ∷ xs) m d = (omega arith, behind x xs m d)

-- ---- the same numbers in another order

or_right : (a b : Bool) → (a || b) ≡ false → b ≡ false
or_right false b h = h
or_right true b h = cc

both_no : (a b : Bool) → a ≡ false → b ≡ false → (a || b) ≡ false
both_no a b h k = rw (h, k) refl

other_all : (x : ℕ) (xs : List ℕ) → holds x xs ≡ false → AllByRecursion (λ y. (x == y) ≡ false) xs
other_all x [] h = tt
other_all x (y ∷ ys) h = (or_left (x == y) (holds x ys) h, other_all x ys (or_right (x == y) (holds x ys) h))

all_other : (x : ℕ) (xs : List ℕ) → AllByRecursion (λ y. (x == y) ≡ false) xs → holds x xs ≡ false
all_other x [] h = refl
all_other x (y ∷ ys) h = both_no (x == y) (holds x ys) h.0 (all_other x ys h.1)

differ : (xs : List ℕ) → AreDistinct xs → IsDistinct (λ x y. x == y) xs
unfolding IsDistinct
differ [] d = tt
differ (x ∷ xs) d = (other_all x xs d.0, differ xs d.1)

distinct : (xs : List ℕ) → IsDistinct (λ x y. x == y) xs → AreDistinct xs
unfolding IsDistinct
distinct [] d = tt
distinct (x ∷ xs) d = (all_other x xs d.0, distinct xs d.1)

flips : (x y : ℕ) → (x == y) ≡ (y == x)
flips x y = grind (arith, nat_tests)

pub still_distinct : (xs ys : List ℕ) → IsPermutation xs ys → AreDistinct xs → AreDistinct ys
still_distinct xs ys p d = distinct ys (IsDistinct-IsPermutation (λ x y. x == y) flips xs ys p (differ xs d))

holds_any : (n : ℕ) (xs : List ℕ) → holds n xs ≡ list_any (λ y. n == y) xs
holds_any n [] = refl
holds_any n (x ∷ xs) = rw (holds_any n xs) refl

pub still_holds : (xs ys : List ℕ) → IsPermutation xs ys → (q : ℕ) → holds q ys ≡ holds q xs
still_holds xs ys p q = holds_any q ys ∙ sym (list_any-IsPermutation (λ y. q == y) xs ys p) ∙ sym (holds_any q xs)

or_true : (a b : Bool) → b ≡ true → (a || b) ≡ true
or_true false b h = h
or_true true b h = refl

elim_test : (t r : Bool) (n q x : ℕ) → (q == x) ≡ t → x < n → (r ≡ true → q < n) → (t || r) ≡ true → q < n
elim_test true r n q x e b f h = let s : q ≡ x = grind (arith, nat_tests) in omega arith
elim_test false r n q x e b f h = f h

-- membership tells which numbers are below a bound
pub held_below : (n : ℕ) (xs : List ℕ) (q : ℕ) → AreBelow n xs → holds q xs ≡ true → q < n
held_below n [] q b h = absurd (cc)
held_below n (x ∷ xs) q b h = elim_test (q == x) (holds q xs) n q x refl b.0 (λ t. held_below n xs q b.1 t) h

pub below_held : (n : ℕ) (xs : List ℕ) → ((q : ℕ) → holds q xs ≡ true → q < n) → AreBelow n xs
below_held n [] h = tt
below_held n (x ∷ xs) h = (h x (rw (itself x) refl), below_held n xs (λ q t. h q (or_true (q == x) (holds q xs) t)))

pub still_below : (n : ℕ) (xs ys : List ℕ) → IsPermutation xs ys → AreBelow n xs → AreBelow n ys
still_below n xs ys p b = below_held n ys (λ q t. held_below n xs q b (sym (still_holds xs ys p q) ∙ t))

-- ---- the found processes, in order

pub ordered : (n : ℕ) (xs ys : List ℕ) → IsPermutation xs ys → IsNonDecreasing ys → AreDistinct xs → AreBelow n xs → ys ≡ picked 0 n (λ q. holds q xs)
ordered n xs ys p m d b =
    rising_is_picked n 0 ys (λ q. holds q xs) (rises ys m (still_distinct xs ys p d)) (rw (zero-add) (still_below n xs ys p b)) (λ q g l. still_holds xs ys p q)

pub picked_same : (k n : ℕ) (s t : ℕ → Bool) → ((q : ℕ) → s q ≡ t q) → picked n k s ≡ picked n k t
picked_same zero n s t h = refl
picked_same (suc k) n s t h = rw (h n, picked_same k (suc n) s t h) refl

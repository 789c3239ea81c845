-- Processes that are woken one after the other.
use Rattle.std.proofs.Common.{◌≡◌, ℕ, zero, suc, ◌+◌, ◌<◌, ◌≤◌, ◌==◌, ◌||◌, Bool, true, false, if◌then◌else◌, List, [], ◌∷◌, ◌++◌, length, drop, get_or, refl, sym, ap, ◌∙◌, arith, Option, Some, None, append_assoc, append-nil, add-one, eqb-true}
use Rattle.std.proofs.lemmas.List.{drop_more}
use Rattle.gpi.specs.Keys.{holds}
use Rattle.gpi.specs.Design.{Proc}
use Rattle.gpi.specs.declared.types.Report.{Report}
use Rattle.gpi.specs.State.{woken}
use Rattle.kernel_base.specs.Lists.{barred, AreBelow, AreDistinct}
use Rattle.kernel_base.specs.Steps.{AreInside}
use Rattle.kernel_base.proofs.Lists.{itself, holds_push, apart}
use Rattle.fast_kernel.specs.declared.waiters.Waiters.{Waiters}
use Rattle.fast_kernel.specs.Waiters.{AreOf, picked, is_reached}
use Rattle.fast_kernel.specs.Woken.{unbarred}
use Rattle.fast_kernel.proofs.Waiting.{found_waiting, woken_waiting}

or_no : (b : Bool) → (b || false) ≡ b
or_no true = refl
or_no false = refl

barred_parts : (own : Option ℕ) (p : ℕ) (active : List ℕ) → holds p (barred own active) ≡ (holds p (barred own []) || holds p active)
barred_parts None p active = refl
barred_parts (Some o) p active = rw (or_no (p == o)) refl

-- ---- one process

choice : (b : Bool) (p : ℕ) (active : List ℕ) → (if b then active else active ++ p ∷ []) ≡ active ++ (if b then [] else p ∷ [])
choice true p active = sym (append-nil active)
choice false p active = refl

-- a process that is barred stays out
pub own_stays : (own : Option ℕ) (p : ℕ) (active : List ℕ) → holds p (barred own []) ≡ true → active ≡ active ++ unbarred (barred own active) (p ∷ [])
own_stays own p active h = rw (barred_parts own p active, h) (sym (append-nil active))

-- another one is put behind the active ones, unless it is active
pub other_woken : (own : Option ℕ) (p : ℕ) (active : List ℕ) → holds p (barred own []) ≡ false
    → (if holds p active then active else active ++ p ∷ []) ≡ active ++ unbarred (barred own active) (p ∷ [])
other_woken own p active h = rw (barred_parts own p active, h) (choice (holds p active) p active)

-- ---- a list of processes

unbarred_first : (b : Bool) (p : ℕ) (xs : List ℕ) → (if b then xs else p ∷ xs) ≡ (if b then [] else p ∷ []) ++ xs
unbarred_first true p xs = refl
unbarred_first false p xs = refl

same_bar : (own : Option ℕ) (p : ℕ) (xs ys : List ℕ) → holds p xs ≡ holds p ys → holds p (barred own xs) ≡ holds p (barred own ys)
same_bar own p xs ys h = barred_parts own p xs ∙ rw h (sym (barred_parts own p ys))

distinct_at : (xs : List ℕ) (n : ℕ) (p : ℕ) → n < length xs → p ≡ get_or xs n 0 → AreDistinct xs → holds p (drop (suc n) xs) ≡ false
distinct_at [] n p h e d = absurd (omega arith)
distinct_at (x ∷ xs) zero p h e d = rw e d.0
distinct_at (x ∷ xs) (suc n) p h e d = distinct_at xs n p (omega arith) e d.1

pub below_at : (k : ℕ) (xs : List ℕ) (n : ℕ) (p : ℕ) → n < length xs → p ≡ get_or xs n 0 → AreBelow k xs → p < k
below_at k [] n p h e b = absurd (omega arith)
below_at k (x ∷ xs) zero p h e b = rw e b.0
below_at k (x ∷ xs) (suc n) p h e b = below_at k xs n p (omega arith) e b.1

-- what is put behind them, one by one
pub found_step : (own : Option ℕ) (first active next found : List ℕ) (n p : ℕ) → n < length found → p ≡ get_or found n 0
    → next ≡ active ++ unbarred (barred own active) (p ∷ []) → holds p active ≡ holds p first
    → active ++ unbarred (barred own first) (drop n found) ≡ first ++ unbarred (barred own first) found
    → next ++ unbarred (barred own first) (drop (n + 1) found) ≡ first ++ unbarred (barred own first) found
found_step own first active next found n p h e a f i =
    rw (a, same_bar own p active first f, append_assoc, sym (unbarred_first (holds p (barred own first)) p (unbarred (barred own first) (drop (n + 1) found))))
    (rw (drop_more found n 0 h, ← e) at i)

held_choice : (b : Bool) (q p : ℕ) (active : List ℕ) → (q == p) ≡ false → holds q (active ++ (if b then [] else p ∷ [])) ≡ holds q active
held_choice true q p active h = ap (holds q) (append-nil active)
held_choice false q p active h = holds_push q p active ∙ rw h (or_no (holds q active))

differ : (q p : ℕ) (xs : List ℕ) → holds q xs ≡ true → holds p xs ≡ false → (q == p) ≡ false
differ q p xs h k = by_test (q == p) refl
  where
    by_test : (t : Bool) → (q == p) ≡ t → t ≡ false
    by_test false e = refl
    by_test true e = let s : q ≡ p = eqb-true q p e in absurd (let g : false ≡ true = sym k ∙ rw (← s) h in cc)

or_right : (a b : Bool) → b ≡ true → (a || b) ≡ true
or_right true b h = refl
or_right false b h = h

-- the others that are still to come are as they were
pub fresh_step : (own : Option ℕ) (first active next found : List ℕ) (n p : ℕ) → n < length found → p ≡ get_or found n 0 → AreDistinct found
    → next ≡ active ++ unbarred (barred own active) (p ∷ []) → ((q : ℕ) → holds q (drop n found) ≡ true → holds q active ≡ holds q first)
    → (q : ℕ) → holds q (drop (n + 1) found) ≡ true → holds q next ≡ holds q first
fresh_step own first active next found n p h e d a f q k =
    let o : (q == p) ≡ false = differ q p (drop (n + 1) found) k (rw add-one (distinct_at found n p h e d)) in
    let g : holds q (drop n found) ≡ true = rw (drop_more found n 0 h, ← e) (or_right (q == p) (holds q (drop (n + 1) found)) k) in
    ap (holds q) a ∙ held_choice (holds p (barred own active)) q p active o ∙ f q g

pub first_fresh : (own : Option ℕ) (first active found : List ℕ) (n p : ℕ) → n < length found → p ≡ get_or found n 0
    → ((q : ℕ) → holds q (drop n found) ≡ true → holds q active ≡ holds q first) → holds p active ≡ holds p first
first_fresh own first active found n p h e f = f p (rw (drop_more found n 0 h, ← e, itself p) refl)

-- ---- the numbers that are picked are below the end, each once

below_pick : (t : Bool) (m n : ℕ) (xs : List ℕ) → n < m → AreBelow m xs → AreBelow m (if t then n ∷ xs else xs)
below_pick true m n xs h b = (h, b)
below_pick false m n xs h b = b

pub picked_below : (k n m : ℕ) (test : ℕ → Bool) → n + k ≤ m → AreBelow m (picked n k test)
picked_below zero n m test h = tt
picked_below (suc k) n m test h = below_pick (test n) m n (picked (suc n) k test) (omega arith) (picked_below k (suc n) m test (omega arith))

out_pick : (t : Bool) (q n : ℕ) (xs : List ℕ) → (q == n) ≡ false → holds q xs ≡ false → holds q (if t then n ∷ xs else xs) ≡ false
out_pick true q n xs h k = rw h k
out_pick false q n xs h k = k

picked_above : (k n q : ℕ) (test : ℕ → Bool) → q < n → holds q (picked n k test) ≡ false
picked_above zero n q test h = refl
picked_above (suc k) n q test h = out_pick (test n) q n (picked (suc n) k test) (apart q n h) (picked_above k (suc n) q test (omega arith))

distinct_pick : (t : Bool) (n : ℕ) (xs : List ℕ) → holds n xs ≡ false → AreDistinct xs → AreDistinct (if t then n ∷ xs else xs)
distinct_pick true n xs h d = (h, d)
distinct_pick false n xs h d = d

pub picked_distinct : (k n : ℕ) (test : ℕ → Bool) → AreDistinct (picked n k test)
picked_distinct zero n test = tt
picked_distinct (suc k) n test = distinct_pick (test n) n (picked (suc n) k test) (picked_above k (suc n) n test (omega arith)) (picked_distinct k (suc n) test)

-- the processes that were found, without those that are barred, are woken
pub found_woken : (w : Waiters) (ps : List Proc) (cs : List Report) (bar : List ℕ) → AreOf w ps → AreInside cs (length w.chains.first.items)
    → unbarred bar (picked 0 (length w.finds.is_found.items) (is_reached w.chains cs)) ≡ woken 0 ps cs bar
found_woken w ps cs bar a i = ap (unbarred bar) (found_waiting w ps cs a i) ∙ woken_waiting 0 ps cs bar

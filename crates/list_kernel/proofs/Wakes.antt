-- Steps of a walk over the processes, the wakes and the changes.
use Rattle.std.proofs.Common.{◌≡◌, ℕ, ◌+◌, ◌<◌, ◌≤◌, ◌==◌, ◌&&◌, Bool, true, false, not, ◌||◌, slice_get, Some, zero, suc, List, [], ◌∷◌, ◌++◌, length, drop, get_or, refl, append_assoc, append-nil, add-one, drop-cons, arith}
use Rattle.std.specs.List.{list_any}
use Rattle.std.proofs.lemmas.List.{drop_all}
use Rattle.std.proofs.lemmas.Bool.Decides.{nat_tests}
use Rattle.gpi.specs.declared.types.Report.{Report}
use Rattle.gpi.specs.declared.design.Process.{Process}
use Rattle.gpi.specs.Design.{Proc, procs_of}
use Rattle.gpi.specs.Keys.{holds}
use Rattle.gpi.specs.declared.design.Wake.{Wake}
use Rattle.gpi.specs.State.{woken, waits, meets, meets_any}

pub woken_yes : (n : ℕ) (ps : List Process) (p : Process) (cs : List Report) (b front : List ℕ) → n < length ps → p ≡ get_or ps n p
    → (not (holds n b) && waits p.wakes cs) ≡ true
    → (front ++ n ∷ []) ++ woken (n + 1) (procs_of (drop (n + 1) ps)) cs b ≡ front ++ woken n (procs_of (drop n ps)) cs b
woken_yes n ps p cs b front h e t = rw (append_assoc, drop-cons ps n p, add-one, ← e, t) refl

pub woken_no : (n : ℕ) (ps : List Process) (p : Process) (cs : List Report) (b front : List ℕ) → n < length ps → p ≡ get_or ps n p
    → (not (holds n b) && waits p.wakes cs) ≡ false
    → front ++ woken (n + 1) (procs_of (drop (n + 1) ps)) cs b ≡ front ++ woken n (procs_of (drop n ps)) cs b
woken_no n ps p cs b front h e t = rw (drop-cons ps n p, add-one, ← e, t) refl

pub waits_more : (ws : List Wake) (n : ℕ) (w : Wake) (cs : List Report) → slice_get ws n ≡ Some w → waits (drop n ws) cs ≡ (meets_any w cs || waits (drop (n + 1) ws) cs)
waits_more [] n w cs h = absurd (cc)
waits_more (x ∷ ws) zero w cs h = let e : x ≡ w = cc in rw (← e) refl
waits_more (x ∷ ws) (suc n) w cs h = rw add-one (rw add-one at (waits_more ws n w cs h))

-- ---- walks that end at the first that fits

pub waits_none : (ws : List Wake) (n : ℕ) (cs : List Report) → length ws ≤ n → waits (drop n ws) cs ≡ false
waits_none ws n cs h = rw (drop_all n ws h) refl

pub meets_more : (w : Wake) (cs : List Report) (n : ℕ) (c : Report) → n < length cs → c ≡ get_or cs n c → meets_any w (drop n cs) ≡ (meets w c || meets_any w (drop (n + 1) cs))
meets_more w cs n c h e = rw (drop-cons cs n c, add-one, ← e) refl

pub meets_none : (w : Wake) (cs : List Report) (n : ℕ) → length cs ≤ n → meets_any w (drop n cs) ≡ false
meets_none w cs n h = rw (drop_all n cs h) refl

pub ruleset walks = (waits_more, waits_none, meets_more, meets_none)

pub waits_yes : (ws : List Wake) (n : ℕ) (w : Wake) (cs : List Report) (a r : Bool) → slice_get ws n ≡ Some w → a ≡ waits (drop n ws) cs → r ≡ meets_any w cs → r ≡ true → true ≡ a
waits_yes ws n w cs a r h i m t = rw (i, waits_more ws n w cs h, ← m, t) refl

pub waits_on : (ws : List Wake) (n : ℕ) (w : Wake) (cs : List Report) (a r : Bool) → slice_get ws n ≡ Some w → a ≡ waits (drop n ws) cs → r ≡ meets_any w cs → r ≡ false
    → a ≡ waits (drop (n + 1) ws) cs
waits_on ws n w cs a r h i m t = rw (i, waits_more ws n w cs h, ← m, t) refl

-- ---- the order of two tests

pub and_no : (b : Bool) → (b && false) ≡ false
and_no true = refl
and_no false = refl

pub and_yes : (b : Bool) → (b && true) ≡ b
and_yes true = refl
and_yes false = refl

pub ruleset turned = (and_no, and_yes)

-- ---- nothing changed

meets_nothing : (w : Wake) → meets_any w [] ≡ false
meets_nothing w = refl

pub waits_nothing : (ws : List Wake) → waits ws [] ≡ false
waits_nothing [] = refl
waits_nothing (w ∷ ws) = waits_nothing ws

pub woken_nothing : (n : ℕ) (ps : List Proc) (b : List ℕ) → woken n ps [] b ≡ []
woken_nothing n [] b = refl
woken_nothing n (p ∷ ps) b = rw (waits_nothing p.wakes, and_no (not (holds n b))) (woken_nothing (suc n) ps b)

nothing_there : (cs : List Report) (r : Bool) → r ≡ (length cs == 0) → r ≡ true → cs ≡ []
nothing_there [] r e t = refl
nothing_there (c ∷ cs) r e t = absurd (first_of (cc, grind (arith, nat_tests)))

pub woken_none : (active : List ℕ) (ps : List Process) (cs : List Report) (b : List ℕ) (r : Bool) → r ≡ (length cs == 0) → r ≡ true
    → active ≡ active ++ woken 0 (procs_of ps) cs b
woken_none active ps cs b r e t = rw (nothing_there cs r e t, woken_nothing 0 (procs_of ps) b, append-nil) refl

-- ---- membership

same_test : (m n : ℕ) → (m == n) ≡ (n == m)
same_test m n = grind (arith, nat_tests)

pub holds_any : (n : ℕ) (xs : List ℕ) → list_any (λ y. y == n) xs ≡ holds n xs
holds_any n [] = refl
holds_any n (x ∷ xs) = rw (same_test x n, holds_any n xs) refl

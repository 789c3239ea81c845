-- Whom the chains lead to: the processes that the definition wakes.
use Rattle.std.proofs.Common.{◌≡◌, ℕ, zero, suc, ◌<◌, ◌≤◌, ◌==◌, ◌&&◌, ◌||◌, Bool, true, false, not, if◌then◌else◌, List, [], ◌∷◌, ◌++◌, length, refl, sym, ap, arith, ◌∙◌}
use Rattle.std.proofs.lemmas.Bool.Decides.{nat_tests}
use Rattle.gpi.specs.declared.design.Wake.{Wake}
use Rattle.gpi.specs.declared.types.Report.{Report}
use Rattle.gpi.specs.Design.{Proc}
use Rattle.gpi.specs.Keys.{holds}
use Rattle.gpi.specs.State.{meets, meets_any, waits, woken}
use Rattle.fast_kernel.specs.declared.waiters.Waiters.{Waiters}
use Rattle.kernel_base.specs.Steps.{AreInside}
use Rattle.fast_kernel.specs.Woken.{unbarred}
use Rattle.fast_kernel.specs.Waiters.{Waiting, own, awaiting, is_met, is_among, is_reached, picked, waiting, AreOf}
use Rattle.kernel_base.proofs.Lists.{itself}
use Rattle.fast_kernel.proofs.Picked.{picked_same}

or_assoc : (a b c : Bool) → ((a || b) || c) ≡ (a || (b || c))
or_assoc true b c = refl
or_assoc false b c = refl

and_or : (q a b : Bool) → ((q && a) || (q && b)) ≡ (q && (a || b))
and_or true a b = refl
and_or false a b = refl

or_no : (b : Bool) → (b || false) ≡ b
or_no true = refl
or_no false = refl

and_no : (b : Bool) → (b && false) ≡ false
and_no true = refl
and_no false = refl

same_test : (m n : ℕ) → (m == n) ≡ (n == m)
same_test m n = grind (arith, nat_tests)

among_both : (q : ℕ) (c : Report) (xs ys : List Waiting) → is_among q c (xs ++ ys) ≡ (is_among q c xs || is_among q c ys)
among_both q c [] ys = refl
among_both q c (x ∷ xs) ys = rw (among_both q c xs ys) (sym (or_assoc ((q == x.process) && is_met c x.edge) (is_among q c xs) (is_among q c ys)))

own_test : (t m : Bool) (q : ℕ) (n : ℕ) (c : Report) (x : Waiting) (xs : List Waiting) (w : Bool) → x.process ≡ n → is_met c x.edge ≡ m → is_among q c xs ≡ ((q == n) && w)
    → is_among q c (if t then x ∷ xs else xs) ≡ ((q == n) && ((t && m) || w))
own_test true m q n c x xs w p e h = rw (p, e, h) (and_or (q == n) m w)
own_test false m q n c x xs w p e h = h

meets_one : (w : Wake) (c : Report) → meets_any w (c ∷ []) ≡ meets w c
meets_one w c = or_no (meets w c)

-- the wakes of one process
pub among_own : (q n : ℕ) (c : Report) (ws : List Wake) → is_among q c (own c.sig.0 n ws) ≡ ((q == n) && waits ws (c ∷ []))
among_own q n c [] = sym (and_no (q == n))
among_own q n c (w ∷ ws) =
    rw (meets_one w c)
    (own_test (w.sig.0 == c.sig.0) (is_met c w.edge) q n c (record { process = n; edge = w.edge }) (own c.sig.0 n ws) (waits ws (c ∷ [])) refl refl (among_own q n c ws))

and_yes : (b : Bool) → (b && true) ≡ b
and_yes true = refl
and_yes false = refl

held_step : (t : Bool) (q n : ℕ) (xs : List ℕ) → holds q (if t then n ∷ xs else xs) ≡ (((q == n) && t) || holds q xs)
held_step true q n xs = rw (and_yes (q == n)) refl
held_step false q n xs = rw (and_no (q == n)) refl

-- one change
pub among_awaiting : (q n : ℕ) (c : Report) (ps : List Proc) → is_among q c (awaiting c.sig.0 n ps) ≡ holds q (waiting n ps (c ∷ []))
among_awaiting q n c [] = refl
among_awaiting q n c (p ∷ ps) =
    among_both q c (own c.sig.0 n p.wakes) (awaiting c.sig.0 (suc n) ps)
    ∙ rw (among_own q n c p.wakes, among_awaiting q (suc n) c ps, held_step (waits p.wakes (c ∷ [])) q n (waiting (suc n) ps (c ∷ []))) refl

-- several changes
mix : (a b c d : Bool) → ((a || b) || (c || d)) ≡ ((a || c) || (b || d))
mix true b c d = refl
mix false true true d = refl
mix false true false d = refl
mix false false c d = refl

waits_both : (ws : List Wake) (c : Report) (cs : List Report) → waits ws (c ∷ cs) ≡ (waits ws (c ∷ []) || waits ws cs)
waits_both [] c cs = refl
waits_both (w ∷ ws) c cs = rw (waits_both ws c cs, or_no (meets w c)) (mix (meets w c) (meets_any w cs) (waits ws (c ∷ [])) (waits ws cs))

and_part : (q a b : Bool) → (q && (a || b)) ≡ ((q && a) || (q && b))
and_part true a b = refl
and_part false a b = refl

pub held_both : (q n : ℕ) (ps : List Proc) (c : Report) (cs : List Report) → holds q (waiting n ps (c ∷ cs)) ≡ (holds q (waiting n ps (c ∷ [])) || holds q (waiting n ps cs))
held_both q n [] c cs = refl
held_both q n (p ∷ ps) c cs =
    rw (
      held_step (waits p.wakes (c ∷ cs)) q n (waiting (suc n) ps (c ∷ cs)),
      held_step (waits p.wakes (c ∷ [])) q n (waiting (suc n) ps (c ∷ [])),
      held_step (waits p.wakes cs) q n (waiting (suc n) ps cs),
      held_both q (suc n) ps c cs,
      waits_both p.wakes c cs,
      and_part (q == n) (waits p.wakes (c ∷ [])) (waits p.wakes cs),
    )
    (mix ((q == n) && waits p.wakes (c ∷ [])) ((q == n) && waits p.wakes cs) (holds q (waiting (suc n) ps (c ∷ []))) (holds q (waiting (suc n) ps cs)))

waits_none : (ws : List Wake) → waits ws [] ≡ false
waits_none [] = refl
waits_none (w ∷ ws) = waits_none ws

held_none : (q n : ℕ) (ps : List Proc) → holds q (waiting n ps []) ≡ false
held_none q n [] = refl
held_none q n (p ∷ ps) = rw (waits_none p.wakes) (held_none q (suc n) ps)

pub reached_waiting : (w : Waiters) (ps : List Proc) (cs : List Report) (q : ℕ) → AreOf w ps → AreInside cs (length w.chains.first.items)
    → is_reached w.chains cs q ≡ holds q (waiting 0 ps cs)
reached_waiting w ps [] q a i = sym (held_none q 0 ps)
reached_waiting w ps (c ∷ cs) q a i =
    rw (a.chains c.sig.0 i.0, among_awaiting q 0 c ps, reached_waiting w ps cs q a i.1) (sym (held_both q 0 ps c cs))

-- ---- in order

unequal : (q n : ℕ) → q < n → (q == n) ≡ false
unequal q n h = grind (arith, nat_tests)

unequal_up : (q n : ℕ) → suc n ≤ q → (q == n) ≡ false
unequal_up q n h = grind (arith, nat_tests)

before_all : (q n : ℕ) (ps : List Proc) (cs : List Report) → q < n → holds q (waiting n ps cs) ≡ false
before_all q n [] cs h = refl
before_all q n (p ∷ ps) cs h =
    rw (held_step (waits p.wakes cs) q n (waiting (suc n) ps cs), before_all q (suc n) ps cs (omega arith), unequal q n h) refl

from_next : (k n : ℕ) (s t : ℕ → Bool) → ((q : ℕ) → n ≤ q → s q ≡ t q) → picked n k s ≡ picked n k t
from_next zero n s t h = refl
from_next (suc k) n s t h = rw (h n (omega arith), from_next k (suc n) s t (λ q g. h q (omega arith))) refl

later_test : (q n : ℕ) (xs : List ℕ) → suc n ≤ q → holds q (n ∷ xs) ≡ holds q xs
later_test q n xs h = rw (unequal_up q n h) refl

by_first : (t : Bool) (n : ℕ) (ps : List Proc) (cs : List Report) → picked (suc n) (length ps) (λ q. holds q (waiting (suc n) ps cs)) ≡ waiting (suc n) ps cs
    → picked n (suc (length ps)) (λ q. holds q (if t then n ∷ waiting (suc n) ps cs else waiting (suc n) ps cs)) ≡ (if t then n ∷ waiting (suc n) ps cs else waiting (suc n) ps cs)
by_first true n ps cs h =
    rw (itself n)
    (ap (λ (xs : List ℕ). n ∷ xs)
    (from_next (length ps) (suc n) (λ q. holds q (n ∷ waiting (suc n) ps cs)) (λ q. holds q (waiting (suc n) ps cs)) (λ q g. later_test q n (waiting (suc n) ps cs) g) ∙ h))
by_first false n ps cs h = rw (before_all n (suc n) ps cs (omega arith)) h

pub waiting_picked : (n : ℕ) (ps : List Proc) (cs : List Report) → picked n (length ps) (λ q. holds q (waiting n ps cs)) ≡ waiting n ps cs
waiting_picked n [] cs = refl
waiting_picked n (p ∷ ps) cs = by_first (waits p.wakes cs) n ps cs (waiting_picked (suc n) ps cs)

-- the processes that are found are those that wait for one of the changes
pub found_waiting : (w : Waiters) (ps : List Proc) (cs : List Report) → AreOf w ps → AreInside cs (length w.chains.first.items)
    → picked 0 (length w.finds.is_found.items) (is_reached w.chains cs) ≡ waiting 0 ps cs
found_waiting w ps cs a i =
    rw a.count (picked_same (length ps) 0 (is_reached w.chains cs) (λ q. holds q (waiting 0 ps cs)) (λ q. reached_waiting w ps cs q a i) ∙ waiting_picked 0 ps cs)

-- ---- woken: those that wait and aren't barred

woken_step : (t b : Bool) (n : ℕ) (barred xs ys : List ℕ) → holds n barred ≡ b → unbarred barred xs ≡ ys
    → unbarred barred (if t then n ∷ xs else xs) ≡ (if not b && t then n ∷ ys else ys)
woken_step true true n barred xs ys e h = rw e h
woken_step true false n barred xs ys e h = rw (e, h) refl
woken_step false true n barred xs ys e h = h
woken_step false false n barred xs ys e h = h

pub woken_waiting : (n : ℕ) (ps : List Proc) (cs : List Report) (barred : List ℕ) → unbarred barred (waiting n ps cs) ≡ woken n ps cs barred
woken_waiting n [] cs barred = refl
woken_waiting n (p ∷ ps) cs barred =
    woken_step (waits p.wakes cs) (holds n barred) n barred (waiting (suc n) ps cs) (woken (suc n) ps cs barred) refl (woken_waiting (suc n) ps cs barred)

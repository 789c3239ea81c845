-- How the chains are made.
use Rattle.std.proofs.Common.{◌≡◌, ℕ, zero, suc, ◌+◌, ◌<◌, ◌≤◌, ◌==◌, ◌&&◌, nat_lt, get_or, Bool, true, false, IsTrue, if◌then◌else◌, List, [], ◌∷◌, ◌++◌, length, drop, replicate, slice_index_or, slice_set, slice_get, Some, add-one, refl, ap, subst, arith, ◌∙◌}
use Rattle.std.proofs.lemmas.Bool.Decides.{nat_tests}
use Rattle.gpi.specs.declared.design.Wake.{Wake}
use Rattle.gpi.specs.declared.design.Process.{Process}
use Rattle.gpi.specs.Design.{procs_of}
use Rattle.gpi.specs.Soundness.{are_wakes}
use Rattle.fast_kernel.specs.declared.waiters.Link.{Link}
use Rattle.fast_kernel.specs.Waiters.{Waiting, chain, waiting_of, own, awaiting, HaveSignals}
use Rattle.fast_kernel.proofs.Chains.{chain_before, chain_last}

unlike : (q : ℕ) → (zero == suc q) ≡ false
unlike q = grind (arith, nat_tests)

like : (p : ℕ) → (suc p == zero) ≡ false
like p = grind (arith, nat_tests)

shift : (p q : ℕ) → (suc p == suc q) ≡ (p == q)
shift p q = grind (arith, nat_tests)

number_set : (ns : List ℕ) (p q v : ℕ) → p < length ns → slice_index_or (slice_set ns p v) q 0 ≡ (if p == q then v else slice_index_or ns q 0)
number_set [] p q v h = absurd (omega arith)
number_set (n ∷ ns) zero zero v h = refl
number_set (n ∷ ns) zero (suc q) v h = rw (unlike q) refl
number_set (n ∷ ns) (suc p) zero v h = rw (like p) refl
number_set (n ∷ ns) (suc p) (suc q) v h = rw (shift p q) (number_set ns p q v (omega arith))

same_place : (p q : ℕ) → (p == q) ≡ true → p ≡ q
same_place p q h = grind (arith, nat_tests)

by_place : (t : Bool) (a b : ℕ) (ls ms : List Link) (x y : List Waiting) → (t ≡ true → chain ms a ≡ x) → chain ms b ≡ y
    → chain ms (if t then a else b) ≡ (if t then x else y)
by_place true a b ls ms x y h k = h refl
by_place false a b ls ms x y h k = k

-- a link is put before the chain of signal g
pub chain_pushed : (first : List ℕ) (ls : List Link) (l : Link) (g v s : ℕ) → g < length first → l.next ≡ slice_index_or first g 0 → v ≡ suc (length ls)
    → ((q : ℕ) → slice_index_or first q 0 ≤ length ls)
    → chain (ls ++ l ∷ []) (slice_index_or (slice_set first g v) s 0)
    ≡ (if g == s then waiting_of l ∷ chain ls (slice_index_or first s 0) else chain ls (slice_index_or first s 0))
chain_pushed first ls l g v s h e f b =
    rw (number_set first g s v h, f)
    (by_place (g == s) (suc (length ls)) (slice_index_or first s 0) ls (ls ++ l ∷ []) (waiting_of l ∷ chain ls (slice_index_or first s 0)) (chain ls (slice_index_or first s 0))
    (λ t.
    let n : l.next ≡ slice_index_or first s 0 = e ∙ ap (λ (q : ℕ). slice_index_or first q 0) (same_place g s t) in
    chain_last ls l (rw n (b s)) ∙ ap (λ (q : ℕ). waiting_of l ∷ chain ls q) n)
    (chain_before (slice_index_or first s 0) ls l (b s)))

dropped : {A : Type 0} (xs : List A) (k : ℕ) (x : A) → slice_get xs k ≡ Some x → drop k xs ≡ x ∷ drop (k + 1) xs
dropped [] k x h = absurd (cc)
dropped (y ∷ xs) zero x h = let e : y ≡ x = cc in rw (← e) refl
dropped (y ∷ xs) (suc k) x h = rw add-one (rw add-one at (dropped xs k x h))

cut : (t : Bool) (x : Waiting) (xs rest : List Waiting) → (if t then x ∷ (xs ++ rest) else xs ++ rest) ≡ (if t then x ∷ xs else xs) ++ rest
cut true x xs rest = refl
cut false x xs rest = refl

pub own_more : (s p : ℕ) (ws : List Wake) (k : ℕ) (w : Wake) (old new rest : List Waiting) → slice_get ws k ≡ Some w → old ≡ own s p (drop (k + 1) ws) ++ rest
    → new ≡ (if w.sig.0 == s then record { process = p; edge = w.edge } ∷ old else old) → new ≡ own s p (drop k ws) ++ rest
own_more s p ws k w old new rest h e f =
    rw (f, e, dropped ws k w h) (cut (w.sig.0 == s) (record { process = p; edge = w.edge }) (own s p (drop (k + 1) ws)) rest)

pub awaiting_more : (s : ℕ) (ps : List Process) (n : ℕ) (p : Process) (old new : List Waiting) → slice_get ps n ≡ Some p
    → old ≡ awaiting s (n + 1) (procs_of (drop (n + 1) ps)) → new ≡ own s n p.wakes ++ old → new ≡ awaiting s n (procs_of (drop n ps))
awaiting_more s ps n p old new h e f = rw (f, e, dropped ps n p h, add-one) refl

both_true : (a b : Bool) → IsTrue (a && b) → IsTrue a × IsTrue b
both_true true true h = (refl, refl)
both_true true false h = absurd (cc)
both_true false b h = absurd (cc)

below : (a b : ℕ) → IsTrue (nat_lt a b) → a < b
below a b h = grind (arith, nat_tests)

pub wake_at : (ws : List Wake) (n k : ℕ) (w : Wake) → IsTrue (are_wakes ws n) → slice_get ws k ≡ Some w → w.sig.0 < n
wake_at [] n k w t h = absurd (cc)
wake_at (x ∷ ws) n zero w t h = let e : x ≡ w = cc in subst (λ (y : Wake). y.sig.0 < n) e (below x.sig.0 n (both_true (nat_lt x.sig.0 n) (are_wakes ws n) t).0)
wake_at (x ∷ ws) n (suc k) w t h = wake_at ws n k w (both_true (nat_lt x.sig.0 n) (are_wakes ws n) t).1 h

pub wakes_at : (ps : List Process) (n k : ℕ) (p : Process) → HaveSignals ps n → slice_get ps k ≡ Some p → IsTrue (are_wakes p.wakes n)
wakes_at [] n k p t h = absurd (cc)
wakes_at (x ∷ ps) n zero p t h = let e : x ≡ p = cc in subst (λ (y : Process). IsTrue (are_wakes y.wakes n)) e t.0
wakes_at (x ∷ ps) n (suc k) p t h = wakes_at ps n k p t.1 h

pub filled : {A : Type 0} (n q : ℕ) (x : A) → slice_index_or (replicate n x) q x ≡ x
filled zero q x = refl
filled (suc n) zero x = refl
filled (suc n) (suc q) x = filled n q x

pub number_at : (ns : List ℕ) (k n : ℕ) → k < length ns → n ≡ get_or ns k n → n ≡ slice_index_or ns k 0
number_at [] k n h e = absurd (omega arith)
number_at (m ∷ ns) zero n h e = e
number_at (m ∷ ns) (suc k) n h e = number_at ns k n (omega arith) e

pub length_procs : (ps : List Process) → length (procs_of ps) ≡ length ps
length_procs [] = refl
length_procs (p ∷ ps) = rw (length_procs ps) refl

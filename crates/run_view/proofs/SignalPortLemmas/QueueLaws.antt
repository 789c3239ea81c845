-- Writes in the order in which they were staged, and those of them that count.
use Rattle.std.proofs.Common.{◌≡◌, ℕ, zero, suc, ◌+◌, ◌-◌, ◌<◌, ◌≤◌, ◌==◌, Bool, true, false, not, List, [], ◌∷◌, ◌++◌, length, refl, ap, sym, subst, ◌∙◌, arith, append_assoc, append-nil, eqb-true, eq-eqb, cond}
use Rattle.std.specs.Prelude.{if◌then◌else◌, filter}
use Rattle.std.proofs.lemmas.List.Sums.{count_by-le-length, sum_by-append, sum_by-cons}
use Rattle.gpi.specs.declared.types.SigId.{SigId}
use Rattle.gpi.specs.declared.types.Write.{Write}
use Rattle.indexmap.specs.IndexMap.{IndexMap}
use Rattle.run_view.specs.SignalPort.Queue.{count_of, newest, turned, turns, tally_at, IsTally}
use Rattle.run_view.specs.SignalPort.Staging.{restaged}
use Rattle.run_view.specs.declared.signal_port.staged.Staged.{Staged}

-- ---- counts

count_append : (n : ℕ) (xs ys : List Staged) → count_of n (xs ++ ys) ≡ count_of n xs + count_of n ys
count_append n xs ys = sum_by-append (λ (w : Staged). cond (w.sig.0 == n) 1 0) xs ys

pub few_of : (n : ℕ) (ws : List Staged) → count_of n ws ≤ length ws
few_of n ws = count_by-le-length (λ (w : Staged). w.sig.0 == n) ws

count_cons : (n : ℕ) (w : Staged) (ws : List Staged) → count_of n (w ∷ ws) ≡ cond (w.sig.0 == n) 1 0 + count_of n ws
count_cons n w ws = sum_by-cons (λ (v : Staged). cond (v.sig.0 == n) 1 0) w ws

count_last : (n : ℕ) (w : Staged) (ws : List Staged) → count_of n (ws ++ w ∷ []) ≡ count_of n ws + cond (w.sig.0 == n) 1 0
count_last n w ws =
    let a : count_of n (ws ++ w ∷ []) ≡ count_of n ws + count_of n (w ∷ []) = count_append n ws (w ∷ []) in
    let b : count_of n (w ∷ []) ≡ cond (w.sig.0 == n) 1 0 + count_of n [] = count_cons n w [] in
    let z : count_of n [] ≡ 0 = refl in
    omega arith

-- the first of them is of its own signal
own_count : (w : Staged) (ws : List Staged) → count_of w.sig.0 (w ∷ ws) ≡ 1 + count_of w.sig.0 ws
own_count w ws = count_cons w.sig.0 w ws ∙ ap (λ (b : Bool). cond b 1 0 + count_of w.sig.0 ws) (eq-eqb w.sig.0 w.sig.0 refl)

-- ---- the tally

-- the first is taken
pub tally_taken : {S : Type 0} (w : Staged) (ws : List Staged) (tally tally' : IndexMap ℕ ℕ S) → IsTally tally (w ∷ ws)
    → ((n : ℕ) → tally_at tally' n ≡ (if w.sig.0 == n then tally_at tally n - 1 else tally_at tally n)) → IsTally tally' ws
tally_taken w ws tally tally' t h n = h n ∙ less (w.sig.0 == n) (tally_at tally n) (count_of n ws) (t n ∙ count_cons n w ws)
  where
    less : (b : Bool) (k m : ℕ) → k ≡ cond b 1 0 + m → (if b then k - 1 else k) ≡ m
    less true k m e = omega arith
    less false k m e = omega arith

-- one more stands behind the others
pub tally_added : {S : Type 0} (w : Staged) (ws : List Staged) (tally tally' : IndexMap ℕ ℕ S) → IsTally tally ws
    → ((n : ℕ) → tally_at tally' n ≡ (if w.sig.0 == n then tally_at tally n + 1 else tally_at tally n)) → IsTally tally' (ws ++ w ∷ [])
tally_added w ws tally tally' t h n =
    h n ∙ more (w.sig.0 == n) (tally_at tally n) (count_of n ws) (t n) ∙ sym (count_last n w ws)
  where
    more : (b : Bool) (k m : ℕ) → k ≡ m → (if b then k + 1 else k) ≡ m + cond b 1 0
    more true k m e = omega arith
    more false k m e = omega arith

-- the first goes behind the others
pub tally_turned : {S : Type 0} (w : Staged) (ws : List Staged) (tally : IndexMap ℕ ℕ S) → IsTally tally (w ∷ ws) → IsTally tally (ws ++ w ∷ [])
tally_turned w ws tally t n =
    let e : tally_at tally n ≡ cond (w.sig.0 == n) 1 0 + count_of n ws = t n ∙ count_cons n w ws in
    let f : count_of n (ws ++ w ∷ []) ≡ count_of n ws + cond (w.sig.0 == n) 1 0 = count_last n w ws in
    omega arith

-- ---- what counts

-- the first counts where it is the only one of its signal
pub newest_first : (w : Staged) (ws : List Staged) → count_of w.sig.0 ws ≡ 0 → newest (w ∷ ws) ≡ w ∷ newest ws
newest_first w ws h = rw (eq-eqb (count_of w.sig.0 ws) 0 h) refl

pub newest_later : (w : Staged) (ws : List Staged) → 0 < count_of w.sig.0 ws → newest (w ∷ ws) ≡ newest ws
newest_later w ws h = decided (count_of w.sig.0 ws == 0) refl
  where
    decided : (b : Bool) → (count_of w.sig.0 ws == 0) ≡ b → newest (w ∷ ws) ≡ newest ws
    decided true e = let z : count_of w.sig.0 ws ≡ 0 = eqb-true (count_of w.sig.0 ws) 0 e in absurd (omega arith)
    decided false e = rw e refl

pub turned_back : (w : Staged) (ws : List Staged) → count_of w.sig.0 ws ≡ 0 → ws ++ w ∷ [] ≡ turned (w ∷ ws)
turned_back w ws h = rw (eq-eqb (count_of w.sig.0 ws) 0 h) refl

pub turned_gone : (w : Staged) (ws : List Staged) → 0 < count_of w.sig.0 ws → ws ≡ turned (w ∷ ws)
turned_gone w ws h = decided (count_of w.sig.0 ws == 0) refl
  where
    decided : (b : Bool) → (count_of w.sig.0 ws == 0) ≡ b → ws ≡ turned (w ∷ ws)
    decided true e = let z : count_of w.sig.0 ws ≡ 0 = eqb-true (count_of w.sig.0 ws) 0 e in absurd (omega arith)
    decided false e = rw e refl

positive : (k : ℕ) → (k == 0) ≡ false → 0 < k
positive zero q = cc
positive (suc k) q = omega arith

few_newest : (n : ℕ) (ws : List Staged) → count_of n (newest ws) ≤ count_of n ws
few_newest n [] = omega arith
few_newest n (w ∷ ws) = decided (count_of w.sig.0 ws == 0) refl (few_newest n ws)
  where
    more : count_of n (w ∷ ws) ≡ cond (w.sig.0 == n) 1 0 + count_of n ws
    more = count_cons n w ws

    decided : (b : Bool) → (count_of w.sig.0 ws == 0) ≡ b → count_of n (newest ws) ≤ count_of n ws → count_of n (newest (w ∷ ws)) ≤ count_of n (w ∷ ws)
    decided true e h =
        let z : count_of w.sig.0 ws ≡ 0 = eqb-true (count_of w.sig.0 ws) 0 e in
        let f : count_of n (newest (w ∷ ws)) ≡ cond (w.sig.0 == n) 1 0 + count_of n (newest ws) = ap (count_of n) (newest_first w ws z) ∙ count_cons n w (newest ws) in
        let m : count_of n (w ∷ ws) ≡ cond (w.sig.0 == n) 1 0 + count_of n ws = more in
        omega arith
    decided false e h =
        let f : count_of n (newest (w ∷ ws)) ≡ count_of n (newest ws) = ap (count_of n) (newest_later w ws (positive (count_of w.sig.0 ws) e)) in
        let m : count_of n (w ∷ ws) ≡ cond (w.sig.0 == n) 1 0 + count_of n ws = more in
        omega arith

-- of those that count each does
pub newest_again : (ws : List Staged) → newest (newest ws) ≡ newest ws
newest_again [] = refl
newest_again (w ∷ ws) = decided (count_of w.sig.0 ws == 0) refl (newest_again ws)
  where
    few : count_of w.sig.0 (newest ws) ≤ count_of w.sig.0 ws
    few = few_newest w.sig.0 ws

    decided : (b : Bool) → (count_of w.sig.0 ws == 0) ≡ b → newest (newest ws) ≡ newest ws → newest (newest (w ∷ ws)) ≡ newest (w ∷ ws)
    decided true e more =
        let z : count_of w.sig.0 ws ≡ 0 = eqb-true (count_of w.sig.0 ws) 0 e in
        let f : count_of w.sig.0 (newest ws) ≤ count_of w.sig.0 ws = few in
        ap newest (newest_first w ws z) ∙ newest_first w (newest ws) (omega arith) ∙ ap (λ (vs : List Staged). w ∷ vs) more ∙ sym (newest_first w ws z)
    decided false e more =
        let l : newest (w ∷ ws) ≡ newest ws = newest_later w ws (positive (count_of w.sig.0 ws) e) in
        ap newest l ∙ more ∙ sym l

-- no write of xs is of a signal of ys
abbrev AreApart : List Staged → List Staged → Type 0
AreApart xs ys = (n : ℕ) → 0 < count_of n xs → count_of n ys ≡ 0

apart_less : (w : Staged) (xs ys : List Staged) → AreApart (w ∷ xs) ys → AreApart xs ys
apart_less w xs ys a n h = a n (let l : count_of n (w ∷ xs) ≡ cond (w.sig.0 == n) 1 0 + count_of n xs = count_cons n w xs in omega arith)

apart_moved : (w : Staged) (xs ys : List Staged) → count_of w.sig.0 xs ≡ 0 → AreApart (w ∷ xs) ys → AreApart xs (ys ++ w ∷ [])
apart_moved w xs ys z a n h =
    count_last n w ys ∙ none (w.sig.0 == n) refl
  where
    none : (b : Bool) → (w.sig.0 == n) ≡ b → count_of n ys + cond (w.sig.0 == n) 1 0 ≡ 0
    none true e = let same : w.sig.0 ≡ n = eqb-true w.sig.0 n e in let k : count_of n xs ≡ 0 = subst (λ (m : ℕ). count_of m xs ≡ 0) same z in absurd (omega arith)
    none false e = let k : count_of n ys ≡ 0 = apart_less w xs ys a n h in rw e (omega arith)

-- turned round once, those that count are left, in order
turns_from : (xs ys : List Staged) → AreApart xs ys → turns (length xs) (xs ++ ys) ≡ ys ++ newest xs
turns_from [] ys a = sym (append-nil ys)
turns_from (w ∷ xs) ys a = decided (count_of w.sig.0 xs == 0) refl (λ vs b. turns_from xs vs b)
  where
    free : count_of w.sig.0 ys ≡ 0
    free = a w.sig.0 (let o : count_of w.sig.0 (w ∷ xs) ≡ 1 + count_of w.sig.0 xs = own_count w xs in omega arith)

    all : count_of w.sig.0 (xs ++ ys) ≡ count_of w.sig.0 xs
    all = let e : count_of w.sig.0 (xs ++ ys) ≡ count_of w.sig.0 xs + count_of w.sig.0 ys = count_append w.sig.0 xs ys in let f : count_of w.sig.0 ys ≡ 0 = free in omega arith

    decided : (b : Bool) → (count_of w.sig.0 xs == 0) ≡ b → ((vs : List Staged) → AreApart xs vs → turns (length xs) (xs ++ vs) ≡ vs ++ newest xs)
        → turns (length (w ∷ xs)) ((w ∷ xs) ++ ys) ≡ ys ++ newest (w ∷ xs)
    decided true e more =
        let z : count_of w.sig.0 xs ≡ 0 = eqb-true (count_of w.sig.0 xs) 0 e in
        ap (turns (length xs)) (sym (turned_back w (xs ++ ys) (all ∙ z)) ∙ append_assoc xs ys (w ∷ []))
        ∙ more (ys ++ w ∷ []) (apart_moved w xs ys z a)
        ∙ append_assoc ys (w ∷ []) (newest xs)
        ∙ ap (λ (vs : List Staged). ys ++ vs) (sym (newest_first w xs z))
    decided false e more =
        let some : 0 < count_of w.sig.0 xs = positive (count_of w.sig.0 xs) e in
        ap (turns (length xs)) (sym (turned_gone w (xs ++ ys) (subst (λ (k : ℕ). 0 < k) (sym all) some)))
        ∙ more ys (apart_less w xs ys a)
        ∙ ap (λ (vs : List Staged). ys ++ vs) (sym (newest_later w xs some))

pub turns_all : (xs : List Staged) → turns (length xs) xs ≡ newest xs
turns_all xs = subst (λ (vs : List Staged). turns (length xs) vs ≡ newest xs) (append-nil xs) (turns_from xs [] (λ n h. refl))

pub turns_next : (n m : ℕ) (ws : List Staged) → n ≡ m + 1 → turns m (turned ws) ≡ turns n ws
turns_next zero m ws e = absurd (omega arith)
turns_next (suc n) m ws e = let h : m ≡ n = omega arith in ap (λ (k : ℕ). turns k (turned ws)) h

-- ---- a write is staged

abbrev without : ℕ → List Staged → List Staged
without n ws = filter (λ (v : Staged). not (v.sig.0 == n)) ws

turn_round : (m n : ℕ) (b : Bool) → (m == n) ≡ b → (n == m) ≡ b
turn_round m n true e = eq-eqb n m (sym (eqb-true m n e))
turn_round m n false e = other (n == m) refl
  where
    other : (c : Bool) → (n == m) ≡ c → (n == m) ≡ false
    other true q = let k : (m == n) ≡ true = eq-eqb m n (sym (eqb-true n m q)) in let z : true ≡ false = sym k ∙ e in cc
    other false q = q

pub newest_staged : (w : Staged) (ws : List Staged) → newest (ws ++ w ∷ []) ≡ without w.sig.0 (newest ws) ++ w ∷ []
newest_staged w [] = refl
newest_staged w (v ∷ ws) = decided (v.sig.0 == w.sig.0) (count_of v.sig.0 ws == 0) refl refl (newest_staged w ws)
  where
    decided : (b c : Bool) → (v.sig.0 == w.sig.0) ≡ b → (count_of v.sig.0 ws == 0) ≡ c → newest (ws ++ w ∷ []) ≡ without w.sig.0 (newest ws) ++ w ∷ []
        → newest ((v ∷ ws) ++ w ∷ []) ≡ without w.sig.0 (newest (v ∷ ws)) ++ w ∷ []
    decided true true e q more =
        let t : (w.sig.0 == v.sig.0) ≡ true = turn_round v.sig.0 w.sig.0 true e in
        let m : count_of v.sig.0 (ws ++ w ∷ []) ≡ count_of v.sig.0 ws + 1 = count_last v.sig.0 w ws ∙ ap (λ (b : Bool). count_of v.sig.0 ws + cond b 1 0) t in
        newest_later v (ws ++ w ∷ []) (omega arith) ∙ more ∙ rw q (rw e refl)
    decided true false e q more =
        let t : (w.sig.0 == v.sig.0) ≡ true = turn_round v.sig.0 w.sig.0 true e in
        let m : count_of v.sig.0 (ws ++ w ∷ []) ≡ count_of v.sig.0 ws + 1 = count_last v.sig.0 w ws ∙ ap (λ (b : Bool). count_of v.sig.0 ws + cond b 1 0) t in
        newest_later v (ws ++ w ∷ []) (omega arith) ∙ more ∙ rw q refl
    decided false true e q more =
        let t : (w.sig.0 == v.sig.0) ≡ false = turn_round v.sig.0 w.sig.0 false e in
        let m : count_of v.sig.0 (ws ++ w ∷ []) ≡ count_of v.sig.0 ws + 0 = count_last v.sig.0 w ws ∙ ap (λ (b : Bool). count_of v.sig.0 ws + cond b 1 0) t in
        let z : count_of v.sig.0 ws ≡ 0 = eqb-true (count_of v.sig.0 ws) 0 q in
        newest_first v (ws ++ w ∷ []) (omega arith) ∙ ap (λ (vs : List Staged). v ∷ vs) more ∙ rw q (rw e refl)
    decided false false e q more =
        let t : (w.sig.0 == v.sig.0) ≡ false = turn_round v.sig.0 w.sig.0 false e in
        let m : count_of v.sig.0 (ws ++ w ∷ []) ≡ count_of v.sig.0 ws + 0 = count_last v.sig.0 w ws ∙ ap (λ (b : Bool). count_of v.sig.0 ws + cond b 1 0) t in
        let z : 0 < count_of v.sig.0 ws = positive (count_of v.sig.0 ws) q in
        newest_later v (ws ++ w ∷ []) (omega arith) ∙ more ∙ rw q refl

pub newest_restaged : (sig : SigId) (act : Write) (ws : List Staged) → newest (ws ++ record { sig = sig; act = act } ∷ []) ≡ restaged sig act (newest ws)
newest_restaged sig act ws = newest_staged (record { sig = sig; act = act }) ws

-- ---- none counts exactly where there is none

some_counts : (w : Staged) (ws : List Staged) → 0 < length (newest (w ∷ ws))
some_counts w [] = omega arith
some_counts w (v ∷ ws) = decided (count_of w.sig.0 (v ∷ ws) == 0) refl (some_counts v ws)
  where
    decided : (b : Bool) → (count_of w.sig.0 (v ∷ ws) == 0) ≡ b → 0 < length (newest (v ∷ ws)) → 0 < length (newest (w ∷ v ∷ ws))
    decided true e more = rw e (omega arith)
    decided false e more = rw e more

not_none : (k : ℕ) → 0 < k → (k == 0) ≡ false
not_none k h = decided (k == 0) refl
  where
    decided : (b : Bool) → (k == 0) ≡ b → (k == 0) ≡ false
    decided true e = let z : k ≡ 0 = eqb-true k 0 e in absurd (omega arith)
    decided false e = e

pub counts_none : (ws : List Staged) → (length ws == 0) ≡ (length (newest ws) == 0)
counts_none [] = refl
counts_none (w ∷ ws) = not_none (length (w ∷ ws)) (omega arith) ∙ sym (not_none (length (newest (w ∷ ws))) (some_counts w ws))

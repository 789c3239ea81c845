-- Waiting trees that have begun and aren't done, and whom a cause reaches.
use Rattle.std.proofs.Common.{◌≡◌, ◌+◌, ◌≤◌, suc, ◌||◌, Bool, true, false, if◌then◌else◌, List, [], ◌∷◌, ◌++◌, length, refl, ap, arith, length-append}
use Rattle.std.proofs.lemmas.Bool.{lt-ltb}
use Rattle.std.specs.Prelude.{filter, nat_lt}
use Rattle.std.specs.List.{list_any}
use Rattle.gpi.specs.declared.types.Key.{Key}
use Rattle.py_value.specs.declared.trigger.LockNo.{LockNo}
use Rattle.py_value.specs.declared.trigger.TaskNo.{TaskNo}
use Rattle.await_tree.specs.declared.cause.Cause.{Cause}
use Rattle.await_tree.specs.declared.cause.Cause.TheVariants as cause
use Rattle.await_tree.specs.declared.cause.Step.{Step}
use Rattle.await_tree.specs.declared.cause.Step.TheVariants.{Still, Done}
use Rattle.await_tree.specs.Check.{tree_of}
use Rattle.await_tree.specs.Fire.{awaits, fire, grant, reach_of}
use Rattle.await_tree.specs.Settled.{IsSettled}
use Rattle.await_tree.specs.Steps.{step_of}
use Rattle.await_tree.specs.Tree.{Tree, Over, Leaf, Cycles, First, Combine, Limit, is_over}
use Rattle.await_tree.proofs.Settled.{begin_settled, fire_settled, fire_still, grant_settled}
use Rattle.await_tree.specs.WaitList.Begun.{IsBegun}
use Rattle.await_tree.specs.WaitList.Waiting.{Waiting, Granted, all_waiting, all_woken, behind, entry_of, granted, granted_to, is_wanted, left_of, still_waiting, wants, woken}
use Rattle.run_state.specs.Queue.Still.{AreStill, is_reached}
use Rattle.run_state.proofs.QueueLemmas.Tests.{no_left, no_right}

-- ---- the trees stay so

still_both : (xs ys : List Waiting) → AreStill xs → AreStill ys → AreStill (xs ++ ys)
still_both [] ys h k = k
still_both (x ∷ xs) ys h k = (h.0, h.1, still_both xs ys h.2 k)

-- what is left of a settled tree
left_still : (task : TaskNo) (t : Tree) → IsSettled t → AreStill (left_of task t (step_of t))
left_still task (Over f) h = tt
left_still task (Leaf on trig) h = (refl, h, tt)
left_still task (Cycles k left trig) h = (refl, h, tt)
left_still task (First ts) h = (refl, h, tt)
left_still task (Combine trig ts) h = (refl, h, tt)
left_still task (Limit due t) h = (refl, h, tt)

-- a cause reaches them
pub woken_still : (c : Cause) (ws : List Waiting) → AreStill ws → AreStill (still_waiting c ws)
woken_still c [] h = tt
woken_still c (w ∷ ws) h =
    still_both (left_of w.task (fire c w.tree) (step_of (fire c w.tree))) (still_waiting c ws)
    (left_still w.task (fire c w.tree) (fire_settled c w.tree h.1)) (woken_still c ws h.2)

-- keys are served, one after the other
pub served_still : (ks : List Key) (ws : List Waiting) → AreStill ws → AreStill (all_waiting ks ws)
served_still [] ws h = h
served_still (k ∷ ks) ws h = served_still ks (still_waiting (cause.Key k) ws) (woken_still (cause.Key k) ws h)

-- a lock is handed on
pub granted_still : (l : LockNo) (ws : List Waiting) → AreStill ws → AreStill (granted l ws).waiting
granted_still l [] h = tt
granted_still l (w ∷ ws) h = decided (wants l w.tree) (granted_still l ws h.2)
  where
    decided : (b : Bool) → AreStill (granted l ws).waiting
        → AreStill (let g : Granted = if b then granted_to w.task (grant l w.tree) ws else behind w (granted l ws) in g).waiting
    decided true k = still_both (left_of w.task (grant l w.tree) (step_of (grant l w.tree))) ws (left_still w.task (grant l w.tree) (grant_settled l w.tree h.1)) h.2
    decided false k = (h.0, h.1, k)

-- some leave
pub filter_still : (test : Waiting → Bool) (ws : List Waiting) → AreStill ws → AreStill (filter test ws)
filter_still test [] h = tt
filter_still test (w ∷ ws) h = decided (test w) (filter_still test ws h.2)
  where
    decided : (b : Bool) → AreStill (filter test ws) → AreStill (let r : List Waiting = if b then w ∷ filter test ws else filter test ws in r)
    decided true k = (h.0, h.1, k)
    decided false k = k

-- one begins to wait
pub begun_still : (task : TaskNo) (t : Tree) (ws : List Waiting) → IsBegun t → AreStill ws → AreStill (ws ++ record { task = task; tree = t } ∷ [])
begun_still task t ws b h = still_both ws (record { task = task; tree = t } ∷ []) h (b.waits, rw b.is (begin_settled (tree_of b.trig b.now) b.facts), tt)

-- ---- a cause that reaches nobody

still_step : (t : Tree) → is_over t ≡ false → step_of t ≡ Still
still_step (Over f) h = cc
still_step (Leaf on trig) h = refl
still_step (Cycles k left trig) h = refl
still_step (First ts) h = refl
still_step (Combine trig ts) h = refl
still_step (Limit due t) h = refl

-- all wait on
pub unreached_waiting : (c : Cause) (ws : List Waiting) → AreStill ws → is_reached c ws ≡ false → still_waiting c ws ≡ ws
unreached_waiting c [] h n = refl
unreached_waiting c (w ∷ ws) h n =
    let same : fire c w.tree ≡ w.tree = fire_still c w.tree h.1 (no_left (awaits (reach_of c) w.tree) (is_reached c ws) n) in
    let step : step_of w.tree ≡ Still = still_step w.tree h.0 in
    let rest : still_waiting c ws ≡ ws = unreached_waiting c ws h.2 (no_right (awaits (reach_of c) w.tree) (is_reached c ws) n) in
    rw (same, step, rest) refl

-- and nobody is woken
pub unreached_woken : (c : Cause) (ws : List Waiting) → AreStill ws → is_reached c ws ≡ false → woken c ws ≡ []
unreached_woken c [] h n = refl
unreached_woken c (w ∷ ws) h n =
    let same : fire c w.tree ≡ w.tree = fire_still c w.tree h.1 (no_left (awaits (reach_of c) w.tree) (is_reached c ws) n) in
    let step : step_of w.tree ≡ Still = still_step w.tree h.0 in
    let rest : woken c ws ≡ [] = unreached_woken c ws h.2 (no_right (awaits (reach_of c) w.tree) (is_reached c ws) n) in
    rw (same, step, rest) refl

-- a lock that nobody wants changes nothing
pub unwanted_waiting : (l : LockNo) (ws : List Waiting) → is_wanted l ws ≡ false → (granted l ws).waiting ≡ ws
unwanted_waiting l [] n = refl
unwanted_waiting l (w ∷ ws) n =
    rw (no_left (wants l w.tree) (is_wanted l ws) n) (ap (λ (vs : List Waiting). w ∷ vs) (unwanted_waiting l ws (no_right (wants l w.tree) (is_wanted l ws) n)))

pub unwanted_entries : (l : LockNo) (ws : List Waiting) → is_wanted l ws ≡ false → (granted l ws).entries ≡ []
unwanted_entries l [] n = refl
unwanted_entries l (w ∷ ws) n =
    rw (no_left (wants l w.tree) (is_wanted l ws) n) (unwanted_entries l ws (no_right (wants l w.tree) (is_wanted l ws) n))

-- some are reached where their number isn't 0
pub any_counted : (test : Waiting → Bool) (ws : List Waiting) → nat_lt 0 (length (filter test ws)) ≡ list_any test ws
any_counted test [] = refl
any_counted test (w ∷ ws) = decided (test w) (any_counted test ws)
  where
    decided : (b : Bool) → nat_lt 0 (length (filter test ws)) ≡ list_any test ws
        → nat_lt 0 (length (let r : List Waiting = if b then w ∷ filter test ws else filter test ws in r)) ≡ (b || list_any test ws)
    decided true h = lt-ltb 0 (suc (length (filter test ws))) (omega arith)
    decided false h = h

-- ---- how many wait or are woken

one_stays : (task : TaskNo) (t : Tree) (s : Step) → length (entry_of task s) + length (left_of task t s) ≡ 1
one_stays task t Still = refl
one_stays task t (Done g) = refl

-- each task that waited waits on or is woken
pub still_counts : (c : Cause) (ws : List Waiting) → length (woken c ws) + length (still_waiting c ws) ≡ length ws
still_counts c [] = refl
still_counts c (w ∷ ws) =
    let one = one_stays w.task (fire c w.tree) (step_of (fire c w.tree)) in
    let more = still_counts c ws in
    let a = length-append (entry_of w.task (step_of (fire c w.tree))) (woken c ws) in
    let b = length-append (left_of w.task (fire c w.tree) (step_of (fire c w.tree))) (still_waiting c ws) in
    omega (arith, one, more, a, b)

pub served_count : (ks : List Key) (ws : List Waiting) → length (all_woken ks ws) + length (all_waiting ks ws) ≡ length ws
served_count [] ws = omega arith
served_count (k ∷ ks) ws =
    let one = still_counts (cause.Key k) ws in
    let more = served_count ks (still_waiting (cause.Key k) ws) in
    let a = length-append (woken (cause.Key k) ws) (all_woken ks (still_waiting (cause.Key k) ws)) in
    omega (arith, one, more, a)

pub granted_count : (l : LockNo) (ws : List Waiting) → length (granted l ws).entries + length (granted l ws).waiting ≡ length ws
granted_count l [] = refl
granted_count l (w ∷ ws) = decided (wants l w.tree) (granted_count l ws)
  where
    decided : (b : Bool) → length (granted l ws).entries + length (granted l ws).waiting ≡ length ws
        → (let g : Granted = if b then granted_to w.task (grant l w.tree) ws else behind w (granted l ws) in length g.entries + length g.waiting) ≡ suc (length ws)
    decided true h =
        let one = one_stays w.task (grant l w.tree) (step_of (grant l w.tree)) in
        let a = length-append (left_of w.task (grant l w.tree) (step_of (grant l w.tree))) ws in
        omega (arith, one, a)
    decided false h = omega (arith, h)

-- no more are left
pub filter_few : {X : Type 0} (test : X → Bool) (xs : List X) → length (filter test xs) ≤ length xs
filter_few test [] = omega arith
filter_few test (x ∷ xs) = decided (test x) (filter_few test xs)
  where
    decided : (b : Bool) → length (filter test xs) ≤ length xs → length (let r : List _ = if b then x ∷ filter test xs else filter test xs in r) ≤ suc (length xs)
    decided true h = omega arith
    decided false h = omega arith

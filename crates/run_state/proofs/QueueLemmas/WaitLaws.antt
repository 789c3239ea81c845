-- The keys of waiting tasks, before and after calls.
use Rattle.std.proofs.Common.{◌≡◌, ◌||◌, Bool, true, false, if◌then◌else◌, List, [], ◌∷◌, ◌++◌, refl, sym, ap, ◌∙◌}
use Rattle.std.specs.Prelude.{filter}
use Rattle.gpi.specs.declared.types.Key.{Key}
use Rattle.gpi.specs.Keys.{among, same_key}
use Rattle.py_value.specs.declared.trigger.LockNo.{LockNo}
use Rattle.py_value.specs.declared.trigger.TaskNo.{TaskNo}
use Rattle.await_tree.specs.declared.cause.Awaited.{Awaited}
use Rattle.await_tree.specs.declared.cause.Awaited.TheVariants as awaited
use Rattle.await_tree.specs.declared.cause.Cause.{Cause}
use Rattle.await_tree.specs.declared.cause.Step.{Step}
use Rattle.await_tree.specs.declared.cause.Step.TheVariants.{Still, Done}
use Rattle.await_tree.specs.Fire.{fire, grant, is_among}
use Rattle.await_tree.specs.Steps.{step_of}
use Rattle.await_tree.specs.Tree.{Tree, leaves}
use Rattle.await_tree.proofs.Within.{leaves_only_go}
use Rattle.await_tree.specs.WaitList.Keys.{AreAlike}
use Rattle.await_tree.specs.WaitList.Waiting.{Waiting, Granted, behind, granted, granted_to, keys_among, keys_of, left_of, named, still_waiting, tree_keys, wants}
use Rattle.run_state.proofs.QueueLemmas.Tests.{or_both, or_false, or_right}
use Rattle.run_state.proofs.QueueLemmas.KeyLaws.{among-append, among_named}

-- a key is among the keys where it is among what is awaited
pub among_awaited : (k : Key) (ws : List Awaited) → among k (keys_among ws) ≡ is_among (awaited.Key k) ws
among_awaited k [] = refl
among_awaited k (awaited.Key own ∷ ws) = ap (λ (b : Bool). same_key k own || b) (among_awaited k ws)
among_awaited k (awaited.Event e ∷ ws) = among_awaited k ws
among_awaited k (awaited.Lock l ∷ ws) = among_awaited k ws
among_awaited k (awaited.Join t ∷ ws) = among_awaited k ws

-- what a tree waits for after a call it waited for before
pub fire_less : (k : Key) (c : Cause) (t : Tree) → among k (tree_keys (fire c t)) ≡ true → among k (tree_keys t) ≡ true
fire_less k c t h =
    among_awaited k (leaves t) ∙ leaves_only_go.fires c t (awaited.Key k) (sym (among_awaited k (leaves (fire c t))) ∙ h)

pub grant_less : (k : Key) (l : LockNo) (t : Tree) → among k (tree_keys (grant l t)) ≡ true → among k (tree_keys t) ≡ true
grant_less k l t h =
    among_awaited k (leaves t) ∙ leaves_only_go.grants l t (awaited.Key k) (sym (among_awaited k (leaves (grant l t))) ∙ h)

-- ---- of all tasks

among_first : (k : Key) (w : Waiting) (ws : List Waiting) → among k (keys_of (w ∷ ws)) ≡ (among k (tree_keys w.tree) || among k (keys_of ws))
among_first k w ws = among-append k (tree_keys w.tree) (keys_of ws)

pub among_both : (k : Key) (xs ys : List Waiting) → among k (keys_of (xs ++ ys)) ≡ (among k (keys_of xs) || among k (keys_of ys))
among_both k [] ys = refl
among_both k (x ∷ xs) ys =
    among_first k x (xs ++ ys)
    ∙ ap (λ (b : Bool). among k (tree_keys x.tree) || b) (among_both k xs ys)
    ∙ assoc (among k (tree_keys x.tree)) (among k (keys_of xs)) (among k (keys_of ys))
    ∙ ap (λ (b : Bool). b || among k (keys_of ys)) (sym (among_first k x xs))
  where
    assoc : (a b c : Bool) → (a || (b || c)) ≡ ((a || b) || c)
    assoc true b c = refl
    assoc false b c = refl

left_less : (k : Key) (task : TaskNo) (t : Tree) (s : Step) → among k (keys_of (left_of task t s)) ≡ true → among k (tree_keys t) ≡ true
left_less k task t Still h = sym (among_first k (record { task = task; tree = t }) [] ∙ or_false (among k (tree_keys t))) ∙ h
left_less k task t (Done g) h = cc

-- those who wait on wait for nothing new
pub still_within : (c : Cause) (ws : List Waiting) (k : Key) → among k (keys_of (still_waiting c ws)) ≡ true → among k (keys_of ws) ≡ true
still_within c [] k h = h
still_within c (w ∷ ws) k h =
    among_first k w ws
    ∙ or_both (among k (keys_of (left_of w.task (fire c w.tree) (step_of (fire c w.tree))))) (among k (keys_of (still_waiting c ws)))
    (among k (tree_keys w.tree)) (among k (keys_of ws))
    (λ m. fire_less k c w.tree (left_less k w.task (fire c w.tree) (step_of (fire c w.tree)) m)) (still_within c ws k)
    (sym (among_both k (left_of w.task (fire c w.tree) (step_of (fire c w.tree))) (still_waiting c ws)) ∙ h)

pub granted_less : (k : Key) (l : LockNo) (ws : List Waiting) → among k (keys_of (granted l ws).waiting) ≡ true → among k (keys_of ws) ≡ true
granted_less k l [] h = h
granted_less k l (w ∷ ws) h = decided (wants l w.tree) (granted_less k l ws) h
  where
    decided : (b : Bool) → (among k (keys_of (granted l ws).waiting) ≡ true → among k (keys_of ws) ≡ true)
        → among k (keys_of (let g : Granted = if b then granted_to w.task (grant l w.tree) ws else behind w (granted l ws) in g).waiting) ≡ true
        → among k (keys_of (w ∷ ws)) ≡ true
    decided true more m =
        among_first k w ws
        ∙ or_both (among k (keys_of (left_of w.task (grant l w.tree) (step_of (grant l w.tree))))) (among k (keys_of ws)) (among k (tree_keys w.tree)) (among k (keys_of ws))
        (λ e. grant_less k l w.tree (left_less k w.task (grant l w.tree) (step_of (grant l w.tree)) e)) (λ e. e)
        (sym (among_both k (left_of w.task (grant l w.tree) (step_of (grant l w.tree))) ws) ∙ m)
    decided false more m =
        among_first k w ws
        ∙ or_both (among k (tree_keys w.tree)) (among k (keys_of (granted l ws).waiting)) (among k (tree_keys w.tree)) (among k (keys_of ws)) (λ e. e) more
        (sym (among_first k w (granted l ws).waiting) ∙ m)

pub filter_less : (k : Key) (test : Waiting → Bool) (ws : List Waiting) → among k (keys_of (filter test ws)) ≡ true → among k (keys_of ws) ≡ true
filter_less k test [] h = h
filter_less k test (w ∷ ws) h = decided (test w) (filter_less k test ws) h
  where
    decided : (b : Bool) → (among k (keys_of (filter test ws)) ≡ true → among k (keys_of ws) ≡ true)
        → among k (keys_of (let r : List Waiting = if b then w ∷ filter test ws else filter test ws in r)) ≡ true → among k (keys_of (w ∷ ws)) ≡ true
    decided true more m =
        among_first k w ws
        ∙ or_both (among k (tree_keys w.tree)) (among k (keys_of (filter test ws))) (among k (tree_keys w.tree)) (among k (keys_of ws)) (λ e. e) more
        (sym (among_first k w (filter test ws)) ∙ m)
    decided false more m = among_first k w ws ∙ or_right (among k (tree_keys w.tree)) (among k (keys_of ws)) (more m)

-- one begins to wait: its keys are named besides
pub begun_more : (k : Key) (task : TaskNo) (t : Tree) (ws : List Waiting) (held held' : List Key) → AreAlike held' held
    → among k (named (ws ++ record { task = task; tree = t } ∷ []) held') ≡ true → (among k (named ws held) || among k (tree_keys t)) ≡ true
begun_more k task t ws held held' a m =
    ap (λ (b : Bool). b || among k (tree_keys t)) (among_named k ws held)
    ∙ turn (among k (keys_of ws)) (among k (tree_keys t)) (among k held)
    (sym (
    among_named k (ws ++ record { task = task; tree = t } ∷ []) held'
    ∙ ap (λ (b : Bool). b || among k held') (among_both k ws (record { task = task; tree = t } ∷ []))
    ∙ ap (λ (b : Bool). (among k (keys_of ws) || b) || among k held') (among_first k (record { task = task; tree = t }) [] ∙ or_false (among k (tree_keys t)))
    ∙ ap (λ (b : Bool). (among k (keys_of ws) || among k (tree_keys t)) || b) (a k)) ∙ m)
  where
    turn : (w t h : Bool) → ((w || t) || h) ≡ true → ((w || h) || t) ≡ true
    turn true t h e = refl
    turn false true true e = refl
    turn false true false e = refl
    turn false false true e = refl
    turn false false false e = e

-- a key is held besides
pub held_more : (k x : Key) (ws : List Waiting) (held held' : List Key) → AreAlike held' (x ∷ held)
    → among k (named ws held') ≡ true → (among k (named ws held) || among k (x ∷ [])) ≡ true
held_more k x ws held held' a m =
    ap (λ (b : Bool). b || among k (x ∷ [])) (among_named k ws held)
    ∙ turn (among k (keys_of ws)) (same_key k x) (among k held) (sym (among_named k ws held' ∙ ap (λ (b : Bool). among k (keys_of ws) || b) (a k)) ∙ m)
  where
    turn : (w s h : Bool) → (w || (s || h)) ≡ true → ((w || h) || (s || false)) ≡ true
    turn true s h e = refl
    turn false true true e = refl
    turn false true false e = refl
    turn false false true e = refl
    turn false false false e = e

-- No key that fired is left to be served, and the awaited keys are those that are needed.
use Rattle.std.proofs.Common.{◌≡◌, ℕ, Bool, true, false, List, [], ◌∷◌, ◌++◌, Option, None, Some, Ok, Err, refl, ap, sym, ◌∙◌}
use Rattle.std.specs.Prelude.{◌||◌, ◌&&◌, not, filter}
use Rattle.gpi.specs.Keys.{among, same_key}
use Rattle.gpi.specs.declared.types.Key.{Key}
use Rattle.gpi.specs.declared.types.Key.TheVariants.{At, ReadWrite}
use Rattle.py_value.specs.Answer.{Answer}
use Rattle.py_value.specs.declared.value.Value.{Value}
use Rattle.await_tree.specs.Fire.{is_among}
use Rattle.await_tree.specs.Tree.{leaves}
use Rattle.await_tree.specs.declared.cause.Awaited.{Awaited}
use Rattle.await_tree.specs.declared.cause.Awaited.TheVariants as awaited
use Rattle.test_meaning.specs.Body.BodyTrees.{Case, Limit}
use Rattle.await_tree.specs.WaitList.Waiting.{Waiting, keys_among, tree_keys, keys_of, phase_key, time_key, awaited_keys, named}
use Rattle.rig_model.specs.Run.Rig.{Rig, Setup, is_any, held}
use Rattle.rig_model.specs.Run.Rig as rig
use Rattle.rig_model.specs.Run.Run.{Run}
use Rattle.rig_model.specs.Run.Case.{values_of, limit_steps, with_deadline, with_limit, with_test, test_begun}
use Rattle.rig_model.proofs.RunLemmas.Served.{step_fired}
use Rattle.run_laws.specs.Places.Needed.{has_leaf, is_at, is_own, is_needed, AwaitsNeeded}
use Rattle.run_laws.specs.Places.Reached.{IsReached}
use Rattle.run_laws.proofs.PlacesLemmas.Reached.{always}

-- ---- nothing fires when a test begins

deadline_fired : (r : Answer ℕ) (c : Rig) → (with_deadline r c).fired ≡ c.fired
deadline_fired (Ok steps) c = refl
deadline_fired (Err kind) c = refl

limit_fired : (step_fs : ℕ) (limit : Option Limit) (c : Rig) → (with_limit step_fs limit c).fired ≡ c.fired
limit_fired step_fs None c = refl
limit_fired step_fs (Some limit) c = deadline_fired (limit_steps step_fs limit) c

test_fired : (setup : Setup) (case : Case) (r : Answer (List Value)) (c : Rig) → (with_test setup case r c).fired ≡ c.fired
test_fired setup case (Ok values) c = limit_fired setup.flat.step_fs case.time _
test_fired setup case (Err kind) c = refl

pub begun_fired : (setup : Setup) (case : Case) (c : Rig) → (test_begun setup case c).fired ≡ c.fired
begun_fired setup case c = test_fired setup case (values_of case.arguments) c

-- between two steps no key is left to be served
none_fired : (setup : Setup) (seed : ℕ) (cases : List Case) (run : Run) → IsReached setup seed cases run → run.rig.fired ≡ []
none_fired setup seed cases run h =
    always setup (λ (c : Rig). c.fired ≡ []) (λ case c k. begun_fired setup case c ∙ k) (λ c k. step_fired setup c ∙ k) (λ c k. refl) (λ c k. k)
    seed cases run refl h

-- ---- lists of keys

or_or : (a b c : Bool) → ((a || b) || c) ≡ (a || (b || c))
or_or true b c = refl
or_or false b c = refl

among_more : (k : Key) (xs ys : List Key) → among k (xs ++ ys) ≡ (among k xs || among k ys)
among_more k [] ys = refl
among_more k (x ∷ xs) ys = ap (λ (b : Bool). same_key k x || b) (among_more k xs ys) ∙ sym (or_or (same_key k x) (among k xs) (among k ys))

pub all_kept : (ks : List Key) → filter (λ (k : Key). not (among k [])) ks ≡ ks
all_kept [] = refl
all_kept (k ∷ ks) = ap (λ (xs : List Key). k ∷ xs) (all_kept ks)

-- ---- whose they are

among_leaves : (k : Key) (ws : List Awaited) → among k (keys_among ws) ≡ is_among (awaited.Key k) ws
among_leaves k [] = refl
among_leaves k (awaited.Key own ∷ ws) = ap (λ (b : Bool). same_key k own || b) (among_leaves k ws)
among_leaves k (awaited.Event event ∷ ws) = among_leaves k ws
among_leaves k (awaited.Lock lock ∷ ws) = among_leaves k ws
among_leaves k (awaited.Join task ∷ ws) = among_leaves k ws

among_waiting : (k : Key) (ws : List Waiting) → among k (keys_of ws) ≡ has_leaf k ws
among_waiting k [] = refl
among_waiting k (w ∷ ws) =
    among_more k (tree_keys w.tree) (keys_of ws) ∙ ap (λ (b : Bool). b || among k (keys_of ws)) (among_leaves k (leaves w.tree))
    ∙ ap (λ (b : Bool). is_among (awaited.Key k) (leaves w.tree) || b) (among_waiting k ws)

or_none : (b : Bool) → (b || false) ≡ b
or_none true = refl
or_none false = refl

among_time : (k : Key) (o : Option ℕ) → among k (time_key o) ≡ is_at k o
among_time k None = refl
among_time k (Some time) = or_none (same_key k (At time))

among_phase : (k : Key) (b : Bool) → among k (phase_key b) ≡ (b && same_key k ReadWrite)
among_phase k true = or_none (same_key k ReadWrite)
among_phase k false = refl

among_held : (k : Key) (c : Rig) → among k (held c) ≡ is_own k c
among_held k c =
    let p : List Key = phase_key (is_any c.staged) in
    let d : List Key = time_key c.deadline in
    let n : List Key = time_key c.planned in
    among_more k (p ++ d) n ∙ ap (λ (b : Bool). b || among k n) (among_more k p d)
    ∙ ap (λ (b : Bool). (b || among k d) || among k n) (among_phase k (is_any c.staged))
    ∙ ap (λ (b : Bool). ((is_any c.staged && same_key k ReadWrite) || b) || among k n) (among_time k c.deadline)
    ∙ ap (λ (b : Bool). ((is_any c.staged && same_key k ReadWrite) || is_at k c.deadline) || b) (among_time k c.planned)

among_needed : (k : Key) (c : Rig) → c.fired ≡ [] → among k (rig.awaited c) ≡ is_needed k c
among_needed k c e =
    ap (λ (fired : List Key). among k (awaited_keys fired c.waiting (held c))) e ∙ ap (among k) (all_kept (named c.waiting (held c)))
    ∙ among_more k (keys_of c.waiting) (held c) ∙ ap (λ (b : Bool). b || among k (held c)) (among_waiting k c.waiting)
    ∙ ap (λ (b : Bool). has_leaf k c.waiting || b) (among_held k c)

pub needed_awaited : (setup : Setup) (seed : ℕ) (cases : List Case) (run : Run) → IsReached setup seed cases run → AwaitsNeeded run.rig
needed_awaited setup seed cases run h =
    let none : run.rig.fired ≡ [] = none_fired setup seed cases run h in
    record { served = none; needed = λ (key : Key). among_needed key run.rig none }

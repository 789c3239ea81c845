-- How often a task stands among the ready and the waiting ones.
use Rattle.std.specs.Prelude.{◌==◌, if◌then◌else◌}
use Rattle.std.proofs.Common.{◌≡◌, ℕ, ◌+◌, Bool, true, false, List, [], ◌∷◌, ◌++◌, Option, refl, ap, sym, ◌∙◌, arith, eq-eqb, eqb-true}
use Rattle.std.proofs.lemmas.Bool.{ne_eqb}
use Rattle.py_value.specs.declared.trigger.TaskNo.{TaskNo}
use Rattle.py_value.specs.declared.trigger.LockNo.{LockNo}
use Rattle.await_tree.specs.declared.cause.Cause.{Cause}
use Rattle.await_tree.specs.declared.cause.Step.{Step}
use Rattle.await_tree.specs.declared.cause.Step.TheVariants.{Still, Done}
use Rattle.await_tree.specs.Fire.{fire, grant}
use Rattle.await_tree.specs.Steps.{step_of}
use Rattle.await_tree.specs.Tree.{Tree}
use Rattle.await_tree.specs.declared.wait_list.ready.Entry.{Entry}
use Rattle.await_tree.specs.WaitList.Ring.{is_entry_of, without_entry}
use Rattle.await_tree.specs.WaitList.Waiting.{Waiting, is_of, without_task, entry_of, left_of, woken, still_waiting, wants, Granted, granted, granted_to, behind}
use Rattle.rig_model.specs.Parts.Placed.{one_if, times, tasks_ready, tasks_waiting, in_turn, placed}

pub times_append : (n : TaskNo) (xs ys : List TaskNo) → times n (xs ++ ys) ≡ times n xs + times n ys
times_append n [] ys = omega arith
times_append n (x ∷ xs) ys = let h : times n (xs ++ ys) ≡ times n xs + times n ys = times_append n xs ys in omega arith

pub ready_append : (n : TaskNo) (xs ys : List Entry) → times n (tasks_ready (xs ++ ys)) ≡ times n (tasks_ready xs) + times n (tasks_ready ys)
ready_append n [] ys = omega arith
ready_append n (x ∷ xs) ys = let h : times n (tasks_ready (xs ++ ys)) ≡ times n (tasks_ready xs) + times n (tasks_ready ys) = ready_append n xs ys in omega arith

pub waiting_append : (n : TaskNo) (xs ys : List Waiting) → times n (tasks_waiting (xs ++ ys)) ≡ times n (tasks_waiting xs) + times n (tasks_waiting ys)
waiting_append n [] ys = omega arith
waiting_append n (x ∷ xs) ys = let h : times n (tasks_waiting (xs ++ ys)) ≡ times n (tasks_waiting xs) + times n (tasks_waiting ys) = waiting_append n xs ys in omega arith

pub times_placed : (n : TaskNo) (turn : Option TaskNo) (ready : List Entry) (waiting : List Waiting)
    → times n (placed turn ready waiting) ≡ times n (in_turn turn) + (times n (tasks_ready ready) + times n (tasks_waiting waiting))
times_placed n turn ready waiting =
    let a : times n (placed turn ready waiting) ≡ times n (in_turn turn) + times n (tasks_ready ready ++ tasks_waiting waiting)
    = times_append n (in_turn turn) (tasks_ready ready ++ tasks_waiting waiting) in
    let b : times n (tasks_ready ready ++ tasks_waiting waiting) ≡ times n (tasks_ready ready) + times n (tasks_waiting waiting)
    = times_append n (tasks_ready ready) (tasks_waiting waiting) in
    omega arith

-- the task itself, or another
pub same_once : (n m : TaskNo) → (n.0 == m.0) ≡ true → one_if (m.0 == n.0) ≡ 1
same_once n m h = ap one_if (eq-eqb m.0 n.0 (sym (eqb-true n.0 m.0 h)))

pub other_none : (n m : TaskNo) → (n.0 == m.0) ≡ false → one_if (m.0 == n.0) ≡ 0
other_none n m h = ap one_if (ne_eqb m.0 n.0 (λ e. (let k : (n.0 == m.0) ≡ true = eq-eqb n.0 m.0 (sym e) in let z : true ≡ false = sym k ∙ h in cc)))

-- ---- each waiting task is woken or waits on

one_step : (n task : TaskNo) (tree : Tree) (s : Step) → times n (tasks_ready (entry_of task s)) + times n (tasks_waiting (left_of task tree s)) ≡ one_if (task.0 == n.0)
one_step n task tree Still = omega arith
one_step n task tree (Done g) = omega arith

pub times_woken : (n : TaskNo) (c : Cause) (ws : List Waiting)
    → times n (tasks_ready (woken c ws)) + times n (tasks_waiting (still_waiting c ws)) ≡ times n (tasks_waiting ws)
times_woken n c [] = refl
times_woken n c (w ∷ ws) =
    let s : Step = step_of (fire c w.tree) in
    let one : times n (tasks_ready (entry_of w.task s)) + times n (tasks_waiting (left_of w.task (fire c w.tree) s)) ≡ one_if (w.task.0 == n.0)
    = one_step n w.task (fire c w.tree) s in
    let more : times n (tasks_ready (woken c ws)) + times n (tasks_waiting (still_waiting c ws)) ≡ times n (tasks_waiting ws) = times_woken n c ws in
    let a : times n (tasks_ready (entry_of w.task s ++ woken c ws)) ≡ times n (tasks_ready (entry_of w.task s)) + times n (tasks_ready (woken c ws))
    = ready_append n (entry_of w.task s) (woken c ws) in
    let b : times n (tasks_waiting (left_of w.task (fire c w.tree) s ++ still_waiting c ws))
    ≡ times n (tasks_waiting (left_of w.task (fire c w.tree) s)) + times n (tasks_waiting (still_waiting c ws))
    = waiting_append n (left_of w.task (fire c w.tree) s) (still_waiting c ws) in
    omega arith

-- the places of those whom a lock reaches
abbrev Holds : TaskNo → List Waiting → Granted → Type 0
Holds n ws g = times n (tasks_ready g.entries) + times n (tasks_waiting g.waiting) ≡ times n (tasks_waiting ws)

pub times_granted : (n : TaskNo) (l : LockNo) (ws : List Waiting) → times n (tasks_ready (granted l ws).entries) + times n (tasks_waiting (granted l ws).waiting) ≡ times n (tasks_waiting ws)
times_granted n l [] = refl
times_granted n l (w ∷ ws) = decided (wants l w.tree) (times_granted n l ws)
  where
    to_one : Holds n (w ∷ ws) (granted_to w.task (grant l w.tree) ws)
    to_one =
        let s : Step = step_of (grant l w.tree) in
        let one : times n (tasks_ready (entry_of w.task s)) + times n (tasks_waiting (left_of w.task (grant l w.tree) s)) ≡ one_if (w.task.0 == n.0)
        = one_step n w.task (grant l w.tree) s in
        let b : times n (tasks_waiting (left_of w.task (grant l w.tree) s ++ ws)) ≡ times n (tasks_waiting (left_of w.task (grant l w.tree) s)) + times n (tasks_waiting ws)
        = waiting_append n (left_of w.task (grant l w.tree) s) ws in
        omega arith

    further : (g : Granted) → Holds n ws g → Holds n (w ∷ ws) (behind w g)
    further g h = omega arith

    decided : (b : Bool) → Holds n ws (granted l ws) → Holds n (w ∷ ws) (if b then granted_to w.task (grant l w.tree) ws else behind w (granted l ws))
    decided true h = to_one
    decided false h = further (granted l ws) h

-- ---- without a task

pub ready_without : (n m : TaskNo) (es : List Entry) → (n.0 == m.0) ≡ false → times n (tasks_ready (without_entry m es)) ≡ times n (tasks_ready es)
ready_without n m [] h = refl
ready_without n m (e ∷ es) h = decided (is_entry_of m e) refl (ready_without n m es h)
  where
    decided : (b : Bool) → is_entry_of m e ≡ b → times n (tasks_ready (without_entry m es)) ≡ times n (tasks_ready es)
        → times n (tasks_ready (without_entry m (e ∷ es))) ≡ times n (tasks_ready (e ∷ es))
    decided true q more =
        let other : one_if (e.task.0 == n.0) ≡ 0 = ap (λ (k : ℕ). one_if (k == n.0)) (eqb-true e.task.0 m.0 q) ∙ other_none n m h in
        rw q (omega (arith, more, other))
    decided false q more = rw q (omega (arith, more))

pub ready_gone : (n m : TaskNo) (es : List Entry) → (n.0 == m.0) ≡ true → times n (tasks_ready (without_entry m es)) ≡ 0
ready_gone n m [] h = refl
ready_gone n m (e ∷ es) h = decided (is_entry_of m e) refl (ready_gone n m es h)
  where
    decided : (b : Bool) → is_entry_of m e ≡ b → times n (tasks_ready (without_entry m es)) ≡ 0 → times n (tasks_ready (without_entry m (e ∷ es))) ≡ 0
    decided true q more = rw q more
    decided false q more =
        let other : one_if (e.task.0 == n.0) ≡ 0 = ap (λ (k : ℕ). one_if (e.task.0 == k)) (eqb-true n.0 m.0 h) ∙ ap one_if q in
        rw q (omega (arith, more, other))

pub waiting_without : (n m : TaskNo) (ws : List Waiting) → (n.0 == m.0) ≡ false → times n (tasks_waiting (without_task m ws)) ≡ times n (tasks_waiting ws)
waiting_without n m [] h = refl
waiting_without n m (w ∷ ws) h = decided (is_of m w) refl (waiting_without n m ws h)
  where
    decided : (b : Bool) → is_of m w ≡ b → times n (tasks_waiting (without_task m ws)) ≡ times n (tasks_waiting ws)
        → times n (tasks_waiting (without_task m (w ∷ ws))) ≡ times n (tasks_waiting (w ∷ ws))
    decided true q more =
        let other : one_if (w.task.0 == n.0) ≡ 0 = ap (λ (k : ℕ). one_if (k == n.0)) (eqb-true w.task.0 m.0 q) ∙ other_none n m h in
        rw q (omega (arith, more, other))
    decided false q more = rw q (omega (arith, more))

pub waiting_gone : (n m : TaskNo) (ws : List Waiting) → (n.0 == m.0) ≡ true → times n (tasks_waiting (without_task m ws)) ≡ 0
waiting_gone n m [] h = refl
waiting_gone n m (w ∷ ws) h = decided (is_of m w) refl (waiting_gone n m ws h)
  where
    decided : (b : Bool) → is_of m w ≡ b → times n (tasks_waiting (without_task m ws)) ≡ 0 → times n (tasks_waiting (without_task m (w ∷ ws))) ≡ 0
    decided true q more = rw q more
    decided false q more =
        let other : one_if (w.task.0 == n.0) ≡ 0 = ap (λ (k : ℕ). one_if (w.task.0 == k)) (eqb-true n.0 m.0 h) ∙ ap one_if q in
        rw q (omega (arith, more, other))

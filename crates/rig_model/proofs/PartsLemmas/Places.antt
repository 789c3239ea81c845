-- Where the tasks of a test stand.
use Rattle.std.proofs.Common.{◌≡◌, ℕ, ◌+◌, ◌<◌, ◌≤◌, ◌==◌, ◌||◌, Bool, true, false, not, List, [], ◌∷◌, ◌++◌, Option, Some, None, IsSome, Ok, Err, refl, ap, sym, ◌∙◌, subst, arith, eq-eqb, eqb-true}
use Rattle.std.specs.Prelude.{is_some}
use Rattle.gpi.specs.State.{State}
use Rattle.gpi.specs.declared.types.Counts.{Counts}
use Rattle.py_value.specs.Answer.{Answer}
use Rattle.py_value.specs.declared.trigger.TaskNo.{TaskNo}
use Rattle.py_value.specs.declared.value.Value.{Value}
use Rattle.py_value.specs.declared.value.Value.TheVariants.{Place}
use Rattle.await_tree.specs.EndedTasks.Endings.{Endings, is_done}
use Rattle.run_view.specs.RandomStream.Generator.{Generator}
use Rattle.rig_model.specs.Task.Frame.{Task, fresh, function_at}
use Rattle.test_meaning.specs.Body.BodyTrees.{Case, Function, Limit}
use Rattle.await_tree.specs.WaitList.Ring.{has_entry, is_entry_of}
use Rattle.await_tree.specs.WaitList.Waiting.{Waiting, is_of, is_waiting}
use Rattle.await_tree.specs.declared.wait_list.ready.Entry.{Entry}
use Rattle.rig_model.specs.Run.Case.{emptied, limit_steps, test_begun, values_of, with_deadline, with_limit, with_test}
use Rattle.rig_model.specs.Run.Effect.{is_numbered, with_new_task}
use Rattle.rig_model.specs.Run.Rig.{Rig, Setup}
use Rattle.rig_model.specs.Run.Step.{task_at}
use Rattle.rig_model.specs.Parts.Placed.{ArePlaced, in_turn, one_if, placed, tasks_ready, tasks_waiting, times}
use Rattle.rig_model.specs.Parts.Apart.{AreApart, IsPlaced}

-- ---- how often a task stands somewhere

times_append : (n : TaskNo) (xs ys : List TaskNo) → times n (xs ++ ys) ≡ times n xs + times n ys
times_append n [] ys = omega arith
times_append n (x ∷ xs) ys = let h : times n (xs ++ ys) ≡ times n xs + times n ys = times_append n xs ys in omega arith

ready_times : (n : TaskNo) (ready : List Entry) → has_entry n ready ≡ true → 0 < times n (tasks_ready ready)
ready_times n [] h = cc
ready_times n (e ∷ es) h = decided (is_entry_of n e) h (ready_times n es)
  where
    decided : (b : Bool) → (b || has_entry n es) ≡ true → (has_entry n es ≡ true → 0 < times n (tasks_ready es)) → 0 < one_if b + times n (tasks_ready es)
    decided true k more = omega arith
    decided false k more = let m : 0 < times n (tasks_ready es) = more k in omega arith

waiting_times : (n : TaskNo) (waiting : List Waiting) → is_waiting n waiting ≡ true → 0 < times n (tasks_waiting waiting)
waiting_times n [] h = cc
waiting_times n (w ∷ ws) h = decided (is_of n w) h (waiting_times n ws)
  where
    decided : (b : Bool) → (b || is_waiting n ws) ≡ true → (is_waiting n ws ≡ true → 0 < times n (tasks_waiting ws)) → 0 < one_if b + times n (tasks_waiting ws)
    decided true k more = omega arith
    decided false k more = let m : 0 < times n (tasks_waiting ws) = more k in omega arith

turn_times : (n : TaskNo) (turn : Option TaskNo) → turn ≡ Some n → 0 < times n (in_turn turn)
turn_times n turn h =
    let one : one_if (n.0 == n.0) ≡ 1 = ap one_if (eq-eqb n.0 n.0 refl) in
    let own : 0 < times n (n ∷ []) = omega (arith, one) in
    subst (λ (o : Option TaskNo). 0 < times n (in_turn o)) (sym h) own

-- what isn't so where it would be false
not_true : (b : Bool) → (b ≡ true → ⊥) → b ≡ false
not_true true h = absurd (h refl)
not_true false h = refl

module _ (tasks : List Task) (endings : Endings) (turn : Option TaskNo) (ready : List Entry) (waiting : List Waiting)
    (p : ArePlaced tasks endings (placed turn ready waiting)) where
  all_times : (n : TaskNo) → times n (placed turn ready waiting) ≡ times n (in_turn turn) + (times n (tasks_ready ready) + times n (tasks_waiting waiting))
  all_times n =
      times_append n (in_turn turn) (tasks_ready ready ++ tasks_waiting waiting)
      ∙ ap (λ (m : ℕ). times n (in_turn turn) + m) (times_append n (tasks_ready ready) (tasks_waiting waiting))

  pub apart : AreApart tasks turn ready waiting
  apart = record {
    turn_lives = λ n h. p.live n (omega (arith, all_times n, turn_times n turn h));
    ready_lives = λ n h. p.live n (omega (arith, all_times n, ready_times n ready h));
    waiting_lives = λ n h. p.live n (omega (arith, all_times n, waiting_times n waiting h));
    turn_not_ready = λ n h. not_true (has_entry n ready) (λ k. omega (arith, all_times n, p.once n, turn_times n turn h, ready_times n ready k));
    turn_not_waiting = λ n h. not_true (is_waiting n waiting) (λ k. omega (arith, all_times n, p.once n, turn_times n turn h, waiting_times n waiting k));
    ready_not_waiting = λ n h. not_true (is_waiting n waiting) (λ k. omega (arith, all_times n, p.once n, ready_times n ready h, waiting_times n waiting k));
  }

-- ---- the begin of a test

-- nothing has a place
none_placed : ArePlaced [] [] []
none_placed = record {
  live = λ n h. absurd (omega (arith, h));
  once = λ n. omega arith;
  started = λ n h. cc;
  ends = λ n h. absurd (omega (arith, h));
}

-- the first task
abbrev first : TaskNo
first = record { 0 = 0 }

is_first : (n : TaskNo) → n.0 < 1 → first ≡ n
is_first n h = let e : 0 ≡ n.0 = omega arith in ap (λ (m : ℕ). let x : TaskNo = record { 0 = m } in x) e

-- it alone was started, and has a place
first_placed : (task : Task) → task.number ≡ first → ArePlaced (task ∷ []) (None ∷ []) (first ∷ [])
first_placed task own = record {
  live = λ n h. there n (0 == n.0) (ap (λ (m : TaskNo). m.0 == n.0) own) h;
  once = λ n. one (0 == n.0);
  started = λ n h. was n (0 == n.0) refl (ap (λ (m : TaskNo). m.0 == n.0) own) h;
  ends = λ n h. subst (λ (m : TaskNo). is_done m (None ∷ []) ≡ not (is_some (task_at m (task ∷ [])))) (is_first n h) (sym (ap not (zero_lives)));
}
  where
    there : (n : TaskNo) (b : Bool) → is_numbered n task ≡ b → 0 < one_if b + 0 → IsSome (task_at n (task ∷ []))
    there n true q h = rw q refl
    there n false q h = absurd (omega (arith, h))

    one : (b : Bool) → one_if b + 0 ≤ 1
    one true = omega arith
    one false = omega arith

    was : (n : TaskNo) (b : Bool) → (0 == n.0) ≡ b → is_numbered n task ≡ b → IsSome (task_at n (task ∷ [])) → n.0 < 1
    was n true e q h = let z : 0 ≡ n.0 = eqb-true 0 n.0 e in omega arith
    was n false e q h = let z : false ≡ true = rw q at h in cc

    zero_lives : is_some (task_at first (task ∷ [])) ≡ true
    zero_lives = let q : is_numbered first task ≡ true = ap (λ (m : TaskNo). m.0 == 0) own in rw q refl

module _ (setup : Setup) (case : Case) (sim : State) (random : Generator) (counts : Counts) where
  abbrev start : Rig
  start = emptied sim random counts

  new_placed : (function : Function) (args : List Value) → IsPlaced (with_new_task function args start)
  new_placed function args = (refl, first_placed (fresh first function args) refl)

  deadline_placed : (steps : Answer ℕ) (c : Rig) → IsPlaced c → IsPlaced (with_deadline steps c)
  deadline_placed (Ok n) c h = h
  deadline_placed (Err kind) c h = h

  limit_placed : (step_fs : ℕ) (limit : Option Limit) (c : Rig) → IsPlaced c → IsPlaced (with_limit step_fs limit c)
  limit_placed step_fs None c h = h
  limit_placed step_fs (Some limit) c h = deadline_placed (limit_steps step_fs limit) c h

  test_placed : (values : Answer (List Value)) → IsPlaced (with_test setup case values start)
  test_placed (Ok values) =
      let function : Function = function_at setup.functions case.function in
      let given : List Value = Place 0 ∷ values in
      limit_placed setup.flat.step_fs case.time (with_new_task function given start) (new_placed function given)
  test_placed (Err kind) = (refl, none_placed)

  pub begun_placed : IsPlaced (test_begun setup case start)
  begun_placed = test_placed (values_of case.arguments)

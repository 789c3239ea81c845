-- Tasks that are live and stand in one place alone.
use Rattle.std.specs.Prelude.{◌==◌, ◌||◌, is_some}
use Rattle.std.proofs.Common.{◌≡◌, ℕ, zero, suc, ◌+◌, ◌<◌, ◌≤◌, Bool, true, false, List, [], ◌∷◌, ◌++◌, length, Option, Some, IsSome, refl, ap, ◌∙◌, arith, eq-eqb, eqb-true, length-append}
use Rattle.std.proofs.lemmas.List.{length-map}
use Rattle.py_value.specs.declared.trigger.TaskNo.{TaskNo}
use Rattle.await_tree.specs.EndedTasks.Endings.{Endings, with_task, with_ending}
use Rattle.await_tree.specs.declared.ended_tasks.ending.Ending.{Ending}
use Rattle.rig_model.specs.Task.Frame.{Task}
use Rattle.await_tree.specs.declared.wait_list.ready.Entry.{Entry}
use Rattle.await_tree.specs.WaitList.Waiting.{Waiting}
use Rattle.rig_model.specs.Run.Effect.{is_numbered}
use Rattle.rig_model.specs.Run.Step.{task_at, stored}
use Rattle.rig_model.specs.Parts.Placed.{one_if, times, tasks_ready, tasks_waiting, in_turn, placed, ArePlaced}
use Rattle.run_state.specs.TestTasks.Tasks.{without, AreEither}
use Rattle.run_state.proofs.TestTasksLemmas.Numbers.{lives_added, lives_stored, lives_without}
use Rattle.run_state.proofs.TestTasksLemmas.Whole.{either_stored, either_started, either_ended, bool_by}
use Rattle.scheduler.proofs.EffectLawsLemmas.Times.{same_once, times_placed}

some_by : (n : TaskNo) (tasks : List Task) → IsSome (task_at n tasks) → is_some (task_at n tasks) ≡ true
some_by n tasks h = h

module _ (tasks : List Task) (endings : Endings) (ns : List TaskNo) (h : ArePlaced tasks endings ns) where
  pub either_of : AreEither tasks endings
  either_of = record { started = h.started; ends = h.ends }

  -- fewer places
  pub placed_fewer : (ns' : List TaskNo) → ((n : TaskNo) → times n ns' ≤ times n ns) → ArePlaced tasks endings ns'
  placed_fewer ns' less = record {
    live = λ n p. h.live n (omega (arith, p, less n));
    once = λ n. omega (arith, less n, h.once n);
    started = h.started;
    ends = h.ends;
  }

  -- what is left of a task is in its place
  pub placed_stored : (number : TaskNo) (r : Task) → r.number ≡ number → ArePlaced (stored number r tasks) endings ns
  placed_stored number r own =
      let e : AreEither (stored number r tasks) endings = either_stored tasks endings either_of number r own in
      record {
        live = λ n p. lives_stored n number r tasks own ∙ h.live n p;
        once = h.once;
        started = e.started;
        ends = e.ends;
      }

  -- a task ends that has no place any more
  pub placed_ended : (task : TaskNo) (ending : Ending) (ns' : List TaskNo) → ((n : TaskNo) → times n ns' ≤ times n ns)
      → ((n : TaskNo) → (n.0 == task.0) ≡ true → times n ns' ≡ 0) → ArePlaced (without task tasks) (with_ending task ending endings) ns'
  placed_ended task ending ns' less none =
      let e : AreEither (without task tasks) (with_ending task ending endings) = either_ended tasks endings either_of task ending in
      record {
        live = λ n p. bool_by (IsSome (task_at n (without task tasks))) (n.0 == task.0) (λ q. absurd (omega (arith, p, none n q)))
            (λ q. lives_without n task tasks q ∙ h.live n (omega (arith, p, less n)));
        once = λ n. omega (arith, less n, h.once n);
        started = e.started;
        ends = e.ends;
      }

  -- a task is started, and has a place
  pub placed_started : (t : Task) (ns' : List TaskNo) → t.number.0 ≡ length endings → ((n : TaskNo) → times n ns' ≡ times n ns + one_if (t.number.0 == n.0))
      → ArePlaced (tasks ++ t ∷ []) (with_task endings) ns'
  placed_started t ns' own is =
      let e : AreEither (tasks ++ t ∷ []) (with_task endings) = either_started tasks endings either_of t own in
      record {
        live = λ n p. lives_added n tasks t ∙ is_there n p;
        once = λ n. bool_by (times n ns' ≤ 1) (t.number.0 == n.0) (λ q. at_once n q) (λ q. omega (arith, is n, ap one_if q, h.once n));
        started = e.started;
        ends = e.ends;
      }
    where
      or_true : (b : Bool) → (b || true) ≡ true
      or_true true = refl
      or_true false = refl

      is_there : (n : TaskNo) → 0 < times n ns' → (is_some (task_at n tasks) || is_numbered n t) ≡ true
      is_there n p = bool_by ((is_some (task_at n tasks) || is_numbered n t) ≡ true) (t.number.0 == n.0)
          (λ q. ap (λ (b : Bool). is_some (task_at n tasks) || b) q ∙ or_true (is_some (task_at n tasks)))
          (λ q. ap (λ (b : Bool). b || is_numbered n t) (some_by n tasks (h.live n (omega (arith, p, is n, ap one_if q)))))

      -- the new one had none
      at_once : (n : TaskNo) → (t.number.0 == n.0) ≡ true → times n ns' ≤ 1
      at_once n q = by_times (times n ns) refl
        where
          by_times : (k : ℕ) → times n ns ≡ k → times n ns' ≤ 1
          by_times zero e = omega (arith, is n, ap one_if q, e)
          by_times (suc k) e = absurd (omega (arith, h.started n (h.live n (omega (arith, e))), eqb-true t.number.0 n.0 q, own))

-- ---- no more places than live tasks

pub no_more : (m : TaskNo) (us : List Task) → length (without m us) ≤ length us
no_more m [] = omega arith
no_more m (u ∷ us) = decided (is_numbered m u) refl (no_more m us)
  where
    decided : (b : Bool) → is_numbered m u ≡ b → length (without m us) ≤ length us → length (without m (u ∷ us)) ≤ length (u ∷ us)
    decided true q more = rw q (omega (arith, more))
    decided false q more = rw q (omega (arith, more))

-- one live task less
pub fewer_live : (m : TaskNo) (ts : List Task) → IsSome (task_at m ts) → length (without m ts) + 1 ≤ length ts
fewer_live m [] h = let z : false ≡ true = h in absurd (cc)
fewer_live m (t ∷ ts) h = decided (is_numbered m t) refl (λ k. fewer_live m ts k)
  where
    decided : (b : Bool) → is_numbered m t ≡ b → (IsSome (task_at m ts) → length (without m ts) + 1 ≤ length ts) → length (without m (t ∷ ts)) + 1 ≤ length (t ∷ ts)
    decided true q more = rw q (omega (arith, no_more m ts))
    decided false q more = let k : IsSome (task_at m ts) = rw q at h in let l : length (without m ts) + 1 ≤ length ts = more k in rw q (omega (arith, l))

few : (ns : List TaskNo) (tasks : List Task) → ((n : TaskNo) → 0 < times n ns → IsSome (task_at n tasks)) → ((n : TaskNo) → times n ns ≤ 1) → length ns ≤ length tasks
few [] tasks live once = omega arith
few (m ∷ ns) tasks live once =
    let one : one_if (m.0 == m.0) ≡ 1 = ap one_if (eq-eqb m.0 m.0 refl) in
    let there : IsSome (task_at m tasks) = live m (omega (arith, one)) in
    let less : length (without m tasks) + 1 ≤ length tasks = fewer_live m tasks there in
    let rest : length ns ≤ length (without m tasks) = few ns (without m tasks) (λ n p. is_there n p) (λ n. omega (arith, once n)) in
    omega (arith, less, rest)
  where
    is_there : (n : TaskNo) → 0 < times n ns → IsSome (task_at n (without m tasks))
    is_there n p = bool_by (IsSome (task_at n (without m tasks))) (n.0 == m.0) (λ q. absurd (omega (arith, p, same_once n m q, once n)))
        (λ q. lives_without n m tasks q ∙ live n (omega (arith, p)))

module _ (tasks : List Task) (endings : Endings) (turn : Option TaskNo) (ready : List Entry) (waiting : List Waiting)
    (h : ArePlaced tasks endings (placed turn ready waiting)) where
  pub few_placed : length (in_turn turn) + length ready + length waiting ≤ length tasks
  few_placed =
      let all : length (placed turn ready waiting) ≤ length tasks = few (placed turn ready waiting) tasks h.live h.once in
      let a : length (placed turn ready waiting) ≡ length (in_turn turn) + length (tasks_ready ready ++ tasks_waiting waiting)
      = length-append (in_turn turn) (tasks_ready ready ++ tasks_waiting waiting) in
      let b : length (tasks_ready ready ++ tasks_waiting waiting) ≡ length (tasks_ready ready) + length (tasks_waiting waiting)
      = length-append (tasks_ready ready) (tasks_waiting waiting) in
      let c : length (tasks_ready ready) ≡ length ready = length-map ready (λ (e : Entry). e.task) in
      let d : length (tasks_waiting waiting) ≡ length waiting = length-map waiting (λ (w : Waiting). w.task) in
      omega arith

-- the task that has its turn is live, and neither ready nor waiting
module _ (tasks : List Task) (endings : Endings) (task : TaskNo) (ready : List Entry) (waiting : List Waiting)
    (h : ArePlaced tasks endings (placed (Some task) ready waiting)) where
  own : one_if (task.0 == task.0) ≡ 1
  own = ap one_if (eq-eqb task.0 task.0 refl)

  pub turn_lives : IsSome (task_at task tasks)
  turn_lives = h.live task (omega (arith, own, times_placed task (Some task) ready waiting))

  pub turn_alone : (n : TaskNo) → (n.0 == task.0) ≡ true → times n (tasks_ready ready) + times n (tasks_waiting waiting) ≡ 0
  turn_alone n q = omega (arith, same_once n task q, times_placed n (Some task) ready waiting, h.once n)

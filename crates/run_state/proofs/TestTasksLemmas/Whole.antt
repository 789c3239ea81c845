-- Of the tasks that were started each one lives or has ended, after a start, a poll and an end.
use Rattle.std.specs.Prelude.{◌==◌, ◌||◌, not, is_some, slice_index_or, IfSome}
use Rattle.std.proofs.Common.{◌≡◌, ℕ, zero, suc, ◌+◌, ◌<◌, Bool, true, false, List, [], ◌∷◌, ◌++◌, length, Option, None, Some, IsSome, refl, ap, sym, subst, ◌∙◌, arith, eq-eqb, eqb-true, length-append}
use Rattle.py_value.specs.declared.trigger.TaskNo.{TaskNo}
use Rattle.py_evaluate.specs.Attribute.Look.{View}
use Rattle.await_tree.specs.declared.cause.Given.{Given}
use Rattle.await_tree.specs.EndedTasks.Endings.{Endings, is_done, ending_of, with_task, with_ending}
use Rattle.await_tree.specs.declared.ended_tasks.ending.Ending.{Ending}
use Rattle.run_state.specs.LiveTasks.Tasks.{Meanings, tasks_of, AreOf, IsKnown, Leaves, LeavesTask, PollsTask}
use Rattle.test_meaning.specs.Body.BodyTrees.{Function}
use Rattle.rig_model.specs.Task.Frame.{Task}
use Rattle.rig_model.specs.Task.Known.{KnowsTurned, KnowsWhole}
use Rattle.rig_model.specs.Task.Poll.{Polled}
use Rattle.rig_model.specs.declared.task.task.Turned.{Turned}
use Rattle.rig_model.specs.Run.Effect.{is_numbered}
use Rattle.rig_model.specs.Run.Known.{KnowsTasks}
use Rattle.rig_model.specs.Run.Step.{task_at, stored}
use Rattle.run_state.specs.TestTasks.Live.{LeftOf, LeavesOne, PollsOne}
use Rattle.run_state.specs.TestTasks.Tasks.{without, AreEither, AreWhole}
use Rattle.run_state.proofs.TestTasksLemmas.Numbers.{at_same, stored_same, lives_added, lives_stored, lives_without, gone_without, read_more, read_last, read_set, read_other, set_long}

none_of : {A : Type 0} (o : Option A) → is_some o ≡ false → o ≡ None
none_of None h = refl
none_of (Some x) h = cc

pub bool_by : (P : Type 0) (b : Bool) → (b ≡ true → P) → (b ≡ false → P) → P
bool_by P true h k = h refl
bool_by P false h k = k refl

other_number : (a b : ℕ) → (a == b) ≡ false → a ≡ b → ⊥
other_number a b h e = let k : (a == b) ≡ true = eq-eqb a b e in let z : true ≡ false = sym k ∙ h in cc

-- ---- each lives or has ended

module _ (tasks : List Task) (endings : Endings) (h : AreEither tasks endings) where
  -- a live task has no ending
  pub unended : (n : TaskNo) → IsSome (task_at n tasks) → ending_of n endings ≡ None
  unended n lives =
      let l : is_some (task_at n tasks) ≡ true = lives in
      let e : is_done n endings ≡ not (is_some (task_at n tasks)) = h.ends n (h.started n lives) in
      none_of (ending_of n endings) (e ∙ ap not l)

  -- a task that was started and has not ended lives
  pub lives_undone : (n : TaskNo) → n.0 < length endings → is_done n endings ≡ false → IsSome (task_at n tasks)
  lives_undone n m u = by_live (is_some (task_at n tasks)) refl (sym (h.ends n m) ∙ u)
    where
      by_live : (b : Bool) → is_some (task_at n tasks) ≡ b → not (is_some (task_at n tasks)) ≡ false → IsSome (task_at n tasks)
      by_live true e k = e
      by_live false e k = let z : true ≡ false = sym (ap not e) ∙ k in cc

  pub either_stored : (number : TaskNo) (r : Task) → r.number ≡ number → AreEither (stored number r tasks) endings
  either_stored number r own = record {
    started = λ n l. h.started n (sym (lives_stored n number r tasks own) ∙ l);
    ends = λ n m. h.ends n m ∙ ap not (sym (lives_stored n number r tasks own));
  }

  -- a task is started
  pub either_started : (t : Task) → t.number.0 ≡ length endings → AreEither (tasks ++ t ∷ []) (with_task endings)
  either_started t own = record {
    started = λ n l. below n (is_some (task_at n tasks)) (is_numbered n t) refl refl (sym (lives_added n tasks t) ∙ l);
    ends = λ n m. ended n (is_numbered n t) refl m;
  }
    where
      long : length (with_task endings) ≡ length endings + 1
      long = length-append endings (None ∷ [])

      below : (n : TaskNo) (l o : Bool) → is_some (task_at n tasks) ≡ l → is_numbered n t ≡ o → (is_some (task_at n tasks) || is_numbered n t) ≡ true
          → n.0 < length (with_task endings)
      below n true o e q k = omega (arith, h.started n e, long)
      below n false true e q k = omega (arith, eqb-true t.number.0 n.0 q, own, long)
      below n false false e q k = let z : false ≡ true = rw (e, q) at k in cc

      is_now : (n : TaskNo) → is_some (task_at n (tasks ++ t ∷ [])) ≡ (is_some (task_at n tasks) || is_numbered n t)
      is_now n = lives_added n tasks t

      no_older : (n : TaskNo) → n.0 ≡ length endings → is_some (task_at n tasks) ≡ false
      no_older n e = bool_by (is_some (task_at n tasks) ≡ false) (is_some (task_at n tasks)) (λ l. absurd (omega (arith, h.started n l))) (λ l. l)

      ended : (n : TaskNo) (o : Bool) → is_numbered n t ≡ o → n.0 < length (with_task endings)
          → is_done n (with_task endings) ≡ not (is_some (task_at n (tasks ++ t ∷ [])))
      ended n true q m =
          let e : n.0 ≡ length endings = sym (eqb-true t.number.0 n.0 q) ∙ own in
          let d : ending_of n (with_task endings) ≡ None = read_last endings n.0 None None e in
          let s : is_some (task_at n (tasks ++ t ∷ [])) ≡ true = is_now n ∙ ap (λ (b : Bool). b || is_numbered n t) (no_older n e) ∙ q in
          ap (λ (o : Option Ending). is_some o) d ∙ sym (ap not s)
      ended n false q m =
          let ne : n.0 ≡ length endings → ⊥ = λ e. other_number t.number.0 n.0 q (own ∙ sym e) in
          let lt : n.0 < length endings = omega (arith, long, ne) in
          let d : ending_of n (with_task endings) ≡ ending_of n endings = read_more endings n.0 None None lt in
          let s : is_some (task_at n (tasks ++ t ∷ [])) ≡ is_some (task_at n tasks) = is_now n ∙ ap (λ (b : Bool). is_some (task_at n tasks) || b) q ∙ or_false (is_some (task_at n tasks)) in
          ap (λ (o : Option Ending). is_some o) d ∙ h.ends n lt ∙ ap not (sym s)
        where
          or_false : (b : Bool) → (b || false) ≡ b
          or_false true = refl
          or_false false = refl

  -- a task ends
  pub either_ended : (task : TaskNo) (ending : Ending) → AreEither (without task tasks) (with_ending task ending endings)
  either_ended task ending = record {
    started = λ n l. bool_by (n.0 < length (with_ending task ending endings)) (n.0 == task.0) (λ e. none_left n l e)
        (λ e. omega (arith, long, h.started n (sym (lives_without n task tasks e) ∙ l)));
    ends = λ n m. bool_by (is_done n (with_ending task ending endings) ≡ not (is_some (task_at n (without task tasks)))) (n.0 == task.0)
        (own n (omega (arith, long, m))) (other n (omega (arith, long, m)));
  }
    where
      long : length (with_ending task ending endings) ≡ length endings
      long = set_long endings task.0 (Some ending)

      none_left : (n : TaskNo) → IsSome (task_at n (without task tasks)) → (n.0 == task.0) ≡ true → n.0 < length (with_ending task ending endings)
      none_left n l e = let z : false ≡ true = sym (gone_without n task tasks (eqb-true n.0 task.0 e)) ∙ l in absurd (cc)

      own : (n : TaskNo) → n.0 < length endings → (n.0 == task.0) ≡ true → is_done n (with_ending task ending endings) ≡ not (is_some (task_at n (without task tasks)))
      own n m e =
          let q : n.0 ≡ task.0 = eqb-true n.0 task.0 e in
          let inside : task.0 < length endings = omega (arith, m, q) in
          let d : ending_of task (with_ending task ending endings) ≡ Some ending = read_set endings task.0 (Some ending) None inside in
          ap (λ (k : ℕ). is_some (slice_index_or (with_ending task ending endings) k None)) q ∙ ap (λ (o : Option Ending). is_some o) d
          ∙ sym (ap not (gone_without n task tasks q))

      other : (n : TaskNo) → n.0 < length endings → (n.0 == task.0) ≡ false → is_done n (with_ending task ending endings) ≡ not (is_some (task_at n (without task tasks)))
      other n m e =
          ap (λ (o : Option Ending). is_some o) (read_other endings task.0 n.0 (Some ending) None (other_number n.0 task.0 e)) ∙ h.ends n m
          ∙ ap not (sym (lives_without n task tasks e))

-- ---- flows

module _ {F : Type 0} (m : Meanings F) (file : List Function) where
  -- the task of each flow of the file is known where all are
  pub flow_known : (view : View) (fs : List (Option F)) (n : ℕ) → AreOf m.functions file fs → KnowsTasks file view (tasks_of m.task fs)
      → IfSome (slice_index_or fs n None) (IsKnown m view)
  flow_known view [] n of k = tt
  flow_known view (None ∷ fs) zero of k = tt
  flow_known view (Some f ∷ fs) zero of k = subst (λ (g : List Function). KnowsWhole g view (m.task f)) (sym of.0) k.0
  flow_known view (None ∷ fs) (suc n) of k = flow_known view fs n of k
  flow_known view (Some f ∷ fs) (suc n) of k = flow_known view fs n of.1 k.1

  flow_of : (fs : List (Option F)) (n : ℕ) (f : F) → AreOf m.functions file fs → slice_index_or fs n None ≡ Some f → m.functions f ≡ file
  flow_of [] n f of e = cc
  flow_of (None ∷ fs) zero f of e = cc
  flow_of (Some g ∷ fs) zero f of e = let q : g ≡ f = cc in ap m.functions (sym q) ∙ of.0
  flow_of (None ∷ fs) (suc n) f of e = flow_of fs n f of e
  flow_of (Some g ∷ fs) (suc n) f of e = flow_of fs n f of.1 e

  module _ (fs fs' : List (Option F)) (number : TaskNo) where
    left_of : (f r : F) → Leaves m fs number f r fs' → LeftOf (tasks_of m.task fs) number (m.task f) (m.task r) (tasks_of m.task fs')
    left_of f r l = record {
      found = sym (at_same number (tasks_of m.task fs)) ∙ l.task_is;
      own = l.own;
      stored_is = l.tasks_are ∙ stored_same number (m.task r) (tasks_of m.task fs);
    }

    pub leaves_one : LeavesTask m fs number fs' → LeavesOne (tasks_of m.task fs) number (tasks_of m.task fs')
    leaves_one l = record { task = m.task l.flow; rest = m.task l.rest; left = left_of l.flow l.rest l.leaves }

    pub polls_one : (view : View) (fuel : ℕ) (given : Given) (turned : Turned) (fuel' : ℕ) → AreOf m.functions file fs
        → PollsTask m view fuel fs number given turned fuel' fs' → PollsOne file view fuel (tasks_of m.task fs) number given turned fuel' (tasks_of m.task fs')
    polls_one view fuel given turned fuel' of p =
        let q : m.functions p.flow ≡ file = flow_of fs number.0 p.flow of p.leaves.found in
        record {
          task = m.task p.flow;
          rest = m.task p.rest;
          left = left_of p.flow p.rest p.leaves;
          polled = subst (λ (g : List Function). Polled g view fuel (m.task p.flow) (Some given) turned fuel' (m.task p.rest)) q p.polls.polled;
          wanted = subst (λ (g : List Function). KnowsTurned g view turned) q p.polls.wanted;
          known = subst (λ (g : List Function). KnowsWhole g view (m.task p.rest)) q p.polls.known;
        }

    -- after a poll
    pub whole_left : (endings : Endings) → AreWhole m file fs endings → AreOf m.functions file fs' → LeavesTask m fs number fs' → AreWhole m file fs' endings
    whole_left endings w of l =
        let o : LeftOf (tasks_of m.task fs) number (m.task l.flow) (m.task l.rest) (tasks_of m.task fs') = left_of l.flow l.rest l.leaves in
        record {
          file_is = of;
          as_many = ap (λ (gs : List (Option F)). length gs) l.leaves.after_is ∙ set_long fs number.0 (Some l.rest) ∙ w.as_many;
          either = subst (λ (ts : List Task). AreEither ts endings) (sym o.stored_is) (either_stored (tasks_of m.task fs) endings w.either number (m.task l.rest) o.own);
        }

  -- after a start
  pub whole_started : (fs fs' : List (Option F)) (endings endings' : Endings) (f : F) (t : Task) → AreWhole m file fs endings → t.number.0 ≡ length endings
      → fs' ≡ fs ++ Some f ∷ [] → tasks_of m.task fs' ≡ tasks_of m.task fs ++ t ∷ [] → AreOf m.functions file fs' → endings' ≡ with_task endings
      → AreWhole m file fs' endings'
  whole_started fs fs' endings endings' f t w own is tasks of ends = subst (λ (es : Endings). AreWhole m file fs' es) (sym ends) (record {
    file_is = of;
    as_many = omega (arith, ap (λ (gs : List (Option F)). length gs) is, length-append fs (Some f ∷ []), length-append endings (None ∷ []), w.as_many);
    either = subst (λ (ts : List Task). AreEither ts (with_task endings)) (sym tasks) (either_started (tasks_of m.task fs) endings w.either t own);
  })

  -- after an end
  pub whole_ended : (fs fs' : List (Option F)) (endings endings' : Endings) (task : TaskNo) (ending : Ending) → AreWhole m file fs endings
      → length fs' ≡ length fs → tasks_of m.task fs' ≡ without task (tasks_of m.task fs) → AreOf m.functions file fs'
      → endings' ≡ with_ending task ending endings → AreWhole m file fs' endings'
  whole_ended fs fs' endings endings' task ending w long tasks of ends = subst (λ (es : Endings). AreWhole m file fs' es) (sym ends) (record {
    file_is = of;
    as_many = long ∙ w.as_many ∙ sym (set_long endings task.0 (Some ending));
    either = subst (λ (ts : List Task). AreEither ts (with_ending task ending endings)) (sym tasks) (either_ended (tasks_of m.task fs) endings w.either task ending);
  })

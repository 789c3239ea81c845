-- The times of a run, and how many verdicts it has.
use Rattle.std.proofs.Common.{◌≡◌, ℕ, zero, suc, ◌+◌, ◌≤◌, Bool, true, false, List, [], ◌∷◌, length, map, Option, None, Some, Ok, Err, refl, ap, ◌∙◌, arith, length-append}
use Rattle.std.specs.Prelude.{IfSome, nat_lt, if◌then◌else◌}
use Rattle.py_value.specs.Answer.{Answer}
use Rattle.py_value.specs.declared.value.Value.{Value}
use Rattle.await_tree.specs.Check.{last_time}
use Rattle.test_meaning.specs.Body.BodyTrees.{Case, Limit}
use Rattle.rig_model.specs.declared.run.outcome.Outcome.{Outcome}
use Rattle.rig_model.specs.Run.Rig.{Rig, Setup}
use Rattle.rig_model.specs.Run.Step.{rig_step}
use Rattle.rig_model.specs.Run.Case.{values_of, limit_steps, deadline_at, with_deadline, with_limit, with_test, test_begun, ended, start_planned}
use Rattle.rig_model.specs.Run.Verdict.{reason_of, verdict_of}
use Rattle.rig_model.specs.Run.Run.{Run, Place, Begins, Runs, Waits, Over, skipped, unskipped, with_skips, begun, planned, judged, place_by, step_in, step_at, step, goes, steps, opening}
use Rattle.scheduler.specs.Timely.{IsTimely}
use Rattle.scheduler.proofs.Keys.{none, not_later}
use Rattle.scheduler.proofs.Steps.{wider, step_timely}

-- ---- begins and ends of tests

with_due : (o : Option ℕ) (bound : ℕ) (c : Rig) → IfSome o (λ (due : ℕ). due ≤ last_time) → IsTimely bound c → IsTimely bound (record c { deadline = o })
with_due o bound c k h = record { time = h.time; updates = h.updates; leaves = h.leaves; deadline = k; planned = h.planned }

due_by : (b : Bool) (latest due : ℕ) → nat_lt latest due ≡ b → IfSome (if b then None else Some due) (λ (d : ℕ). d ≤ latest)
due_by true latest due e = tt
due_by false latest due e = not_later latest due e

deadline_timely : (r : Answer ℕ) (bound : ℕ) (c : Rig) → IsTimely bound c → IsTimely bound (with_deadline r c)
deadline_timely (Ok n) bound c h =
    with_due (deadline_at (c.sim.time + n)) bound c (due_by (nat_lt last_time (c.sim.time + n)) last_time (c.sim.time + n) refl) h
deadline_timely (Err kind) bound c h = h

limit_timely : (step_fs : ℕ) (limit : Option Limit) (bound : ℕ) (c : Rig) → IsTimely bound c → IsTimely bound (with_limit step_fs limit c)
limit_timely step_fs None bound c h = h
limit_timely step_fs (Some limit) bound c h = deadline_timely (limit_steps step_fs limit) bound c h

test_timely : (setup : Setup) (case : Case) (r : Answer (List Value)) (bound : ℕ) (c : Rig) → IsTimely bound c → IsTimely bound (with_test setup case r c)
test_timely setup case (Ok values) bound c h = limit_timely setup.flat.step_fs case.time bound _ h
test_timely setup case (Err kind) bound c h = h

pub begin_timely : (setup : Setup) (case : Case) (bound : ℕ) (c : Rig) → IsTimely bound c → IsTimely bound (test_begun setup case c)
begin_timely setup case bound c h = test_timely setup case (values_of case.arguments) bound c h

pub end_timely : (bound : ℕ) (c : Rig) → IsTimely bound c → IsTimely bound (ended c)
end_timely bound c h = record { time = h.time; updates = h.updates; leaves = none last_time; deadline = tt; planned = tt }

pub plan_timely : (bound : ℕ) (c : Rig) → IsTimely bound c → IsTimely (bound + 1) (start_planned c)
plan_timely bound c h = record {
  time = omega (arith, h.time);
  updates = h.updates;
  leaves = h.leaves;
  deadline = h.deadline;
  planned = omega (arith, h.time);
}

-- ---- runs

-- the tests that a place of a run has before it, the running one among them
abbrev left_in : Place → ℕ
left_in (Begins cases) = length cases
left_in (Runs case cases) = suc (length cases)
left_in (Waits cases) = length cases
left_in Over = 0

skips : (cases : List Case) → length (skipped cases) + length (unskipped cases) ≡ length cases
skips [] = refl
skips (case ∷ cases) = decided case.skip refl (skips cases)
  where
    decided : (b : Bool) → case.skip ≡ b → length (skipped cases) + length (unskipped cases) ≡ length cases
        → length (skipped (case ∷ cases)) + length (unskipped (case ∷ cases)) ≡ suc (length cases)
    decided true e h = rw e (omega arith)
    decided false e h = rw e (omega arith)

map_length : {A B : Type 0} → (f : A → B) (xs : List A) → length (map f xs) ≡ length xs
map_length f [] = refl
map_length f (x ∷ xs) = ap suc (map_length f xs)

with_skips_more : (cases : List Case) (c : Run) → length (with_skips cases c).verdicts ≡ length c.verdicts + length cases
with_skips_more cases c = length-append c.verdicts _ ∙ ap (λ (n : ℕ). length c.verdicts + n) (map_length _ cases)

judged_more : (reason : Option (List ℕ)) (case : Case) (c : Run) → length (judged reason case c).verdicts ≡ length c.verdicts + 1
judged_more reason case c = length-append c.verdicts (verdict_of reason ∷ [])

-- Of so many tests each has a verdict, is left, or neither. No time of the run is later than the latest that may be waited for, and one for each verdict.
record Holds (tests : ℕ) (c : Run) : Type 0 where
  few : length c.verdicts + left_in c.place ≤ tests
  times : IsTimely (last_time + length c.verdicts) c.rig

module _ (setup : Setup) (tests : ℕ) where
  begun_holds : (cases : List Case) (c : Run) → length c.verdicts + length cases ≤ tests → IsTimely (last_time + length c.verdicts) c.rig → Holds tests (begun setup cases c)
  begun_holds [] c n h = record { few = omega arith; times = h }
  begun_holds (case ∷ cases) c n h = record { few = omega arith; times = begin_timely setup case (last_time + length c.verdicts) c.rig h }

  planned_holds : (cases : List Case) (c : Run) (bound : ℕ) → length c.verdicts + length cases ≤ tests → bound + 1 ≤ last_time + length c.verdicts → IsTimely bound c.rig
      → Holds tests (planned cases c)
  planned_holds [] c bound n l h = record { few = omega arith; times = wider bound (last_time + length c.verdicts) c.rig (omega arith) h }
  planned_holds (case ∷ cases) c bound n l h =
      record { few = omega arith; times = wider (bound + 1) (last_time + length c.verdicts) (start_planned c.rig) l (plan_timely bound c.rig h) }

  in_holds : (case : Case) (cases : List Case) (o : Option Outcome) (c : Run) → c.place ≡ Runs case cases → Holds tests c → Holds tests (step_in setup case cases o c)
  in_holds case cases (Some outcome) c e h =
      let d : Run = judged (reason_of setup.flat case outcome) case c in
      let j : length d.verdicts ≡ length c.verdicts + 1 = judged_more (reason_of setup.flat case outcome) case c in
      let s : length (with_skips (skipped cases) d).verdicts ≡ length d.verdicts + length (skipped cases) = with_skips_more (skipped cases) d in
      let t : length (skipped cases) + length (unskipped cases) ≡ length cases = skips cases in
      let p : left_in c.place ≡ suc (length cases) = ap left_in e in
      let few : length c.verdicts + left_in c.place ≤ tests = h.few in
      planned_holds (unskipped cases) (with_skips (skipped cases) d) (last_time + length c.verdicts) (omega arith) (omega arith)
      (end_timely (last_time + length c.verdicts) c.rig h.times)
  in_holds case cases None c e h = record { few = h.few; times = step_timely setup (last_time + length c.verdicts) c.rig (omega arith) h.times }

  left_by : (o : Option ℕ) (cases : List Case) → left_in (place_by o cases) ≡ length cases
  left_by None cases = refl
  left_by (Some time) cases = refl

  at_holds : (p : Place) (c : Run) → c.place ≡ p → Holds tests c → Holds tests (step_at setup p c)
  at_holds (Begins cases) c e h =
      let s : length (with_skips (skipped cases) c).verdicts ≡ length c.verdicts + length (skipped cases) = with_skips_more (skipped cases) c in
      let t : length (skipped cases) + length (unskipped cases) ≡ length cases = skips cases in
      let p : left_in c.place ≡ length cases = ap left_in e in
      let few : length c.verdicts + left_in c.place ≤ tests = h.few in
      begun_holds (unskipped cases) (with_skips (skipped cases) c) (omega arith)
      (wider (last_time + length c.verdicts) (last_time + length (with_skips (skipped cases) c).verdicts) c.rig (omega arith) h.times)
  at_holds (Runs case cases) c e h = in_holds case cases c.rig.outcome c e h
  at_holds (Waits cases) c e h =
      let p : left_in c.place ≡ length cases = ap left_in e in
      let few : length c.verdicts + left_in c.place ≤ tests = h.few in
      let q : left_in (place_by (rig_step setup c.rig).rig.planned cases) ≡ length cases = left_by (rig_step setup c.rig).rig.planned cases in
      record { few = omega arith; times = step_timely setup (last_time + length c.verdicts) c.rig (omega arith) h.times }
  at_holds Over c e h = h

  steps_hold : (budget n : ℕ) (c : Run) → Holds tests c → Holds tests (steps setup budget n c)
  unfolding steps
  steps_hold budget zero c h = h
  steps_hold budget (suc n) c h = decided (goes setup budget c) refl (steps_hold budget n (step setup c) (at_holds c.place c refl h))
    where
      decided : (b : Bool) → goes setup budget c ≡ b → Holds tests (steps setup budget n (step setup c)) → Holds tests (steps setup budget (suc n) c)
      decided true g k = rw g k
      decided false g k = rw g h

opening_holds : (setup : Setup) (seed : ℕ) (cases : List Case) → Holds (length cases) (opening setup seed cases)
opening_holds setup seed cases = record {
  few = omega arith;
  times = record { time = omega arith; updates = tt; leaves = none last_time; deadline = tt; planned = tt };
}

run_holds : (setup : Setup) (seed : ℕ) (cases : List Case) (budget n : ℕ) → Holds (length cases) (steps setup budget n (opening setup seed cases))
run_holds setup seed cases budget n = steps_hold setup (length cases) budget n (opening setup seed cases) (opening_holds setup seed cases)

pub run_timely : (setup : Setup) (seed : ℕ) (cases : List Case) (budget n : ℕ)
    → let run = steps setup budget n (opening setup seed cases) in IsTimely (last_time + length run.verdicts) run.rig
run_timely setup seed cases budget n = (run_holds setup seed cases budget n).times

pub verdicts_few : (setup : Setup) (seed : ℕ) (cases : List Case) (budget n : ℕ) → length (steps setup budget n (opening setup seed cases)).verdicts ≤ length cases
verdicts_few setup seed cases budget n =
    let run : Run = steps setup budget n (opening setup seed cases) in
    let few : length run.verdicts + left_in run.place ≤ length cases = (run_holds setup seed cases budget n).few in
    omega arith

pub time_bounded : (setup : Setup) (seed : ℕ) (cases : List Case) (budget n : ℕ) → (steps setup budget n (opening setup seed cases)).rig.sim.time ≤ last_time + length cases
time_bounded setup seed cases budget n =
    let run : Run = steps setup budget n (opening setup seed cases) in
    let few : length run.verdicts ≤ length cases = verdicts_few setup seed cases budget n in
    let now : run.rig.sim.time ≤ last_time + length run.verdicts = (run_timely setup seed cases budget n).time in
    omega arith

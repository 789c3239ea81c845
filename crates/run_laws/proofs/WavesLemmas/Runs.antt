-- The lines of a run are in order of time.
use Rattle.std.proofs.Common.{◌≡◌, ℕ, ◌+◌, ◌≤◌, Bool, true, false, List, [], ◌∷◌, ◌++◌, map, codes, Option, None, Some, Ok, Err, refl, ap, sym, subst, ◌∙◌, arith, inr, append_assoc}
use Rattle.std.specs.Prelude.{IfSome, nat_lt, if◌then◌else◌}
use Rattle.std.specs.Fmt.{decimal}
use Rattle.std.specs.Str.Parse.{AllDigits}
use Rattle.std.proofs.lemmas.Fmt.{decimal_is_IsNumeral}
use Rattle.py_value.specs.Answer.{Answer}
use Rattle.py_value.specs.declared.value.Value.{Value}
use Rattle.await_tree.specs.Check.{last_time}
use Rattle.test_meaning.specs.Body.BodyTrees.{Case, Limit}
use Rattle.vcd_text.specs.Splits.{has_no_blank}
use Rattle.vcd_text.proofs.SplitLaws.{decimal_no_blank, first_once}
use Rattle.rig_model.specs.declared.run.outcome.Outcome.{Outcome}
use Rattle.rig_model.specs.declared.run.outcome.Verdict.{Verdict}
use Rattle.rig_model.specs.Run.Line.{budget_line, skip_line, test_line, timed_line, verdict_line}
use Rattle.rig_model.specs.Run.Rig.{Rig, Setup}
use Rattle.rig_model.specs.Run.Step.{rig_step}
use Rattle.rig_model.specs.Run.Case.{values_of, limit_steps, with_deadline, with_limit, with_test, test_begun, ended, start_planned}
use Rattle.rig_model.specs.Run.Verdict.{reason_of, report_of}
use Rattle.rig_model.specs.Run.Run.{Run, Place, Begins, Runs, Waits, Over, skipped, unskipped, with_skips, begun, closed, planned, judged, is_over, step_in, step_at, goes, opening}
use Rattle.rig_model.proofs.RunLemmas.Served.{step_fired}
use Rattle.run_laws.specs.Places.Reached.{IsReached}
use Rattle.run_laws.specs.Waves.Times.{IsLineAt, IsUntimed, Lines_rise, RiseTo}
use Rattle.run_laws.proofs.PlacesLemmas.Needed.{begun_fired}
use Rattle.run_laws.proofs.PlacesLemmas.Reached.{reached_each}
use Rattle.run_laws.proofs.WavesLemmas.Times.{none}
use Rattle.run_laws.proofs.WavesLemmas.Effects.{AreAt, IsTimed}
use Rattle.run_laws.proofs.WavesLemmas.Steps.{Moves, all_rise, rise_then, step_moves}

-- ---- lines

pub timed_is : (time : ℕ) (rest : List ℕ) → timed_line time rest ≡ decimal time ++ 32 ∷ (rest ++ 10 ∷ [])
timed_is time rest = append_assoc (decimal time ++ codes " ") rest (10 ∷ []) ∙ append_assoc (decimal time) (codes " ") (rest ++ 10 ∷ [])

-- a line that begins with another word begins with no time
untimed : (text word more : List ℕ) → text ≡ word ++ 32 ∷ more → has_no_blank word ≡ true → (AllDigits 10 word → ⊥) → IsUntimed text
untimed text word more is whole other =
    λ time below at.
    other (subst (AllDigits 10) (first_once (decimal time) (at.0 ++ 10 ∷ []) word more (decimal_no_blank time below) whole (sym (timed_is time at.0) ∙ (sym at.1 ∙ is))).0
    (decimal_is_IsNumeral time below).0.1)

stars : AllDigits 10 (codes "**") → ⊥
stars h = let first = h.0 in omega (arith, first)

budget_word : AllDigits 10 (codes "BUDGET") → ⊥
budget_word h = let first = h.0 in omega (arith, first)

report_untimed : (verdicts : List Verdict) (time : ℕ) → IsUntimed (report_of verdicts time)
report_untimed verdicts time = untimed (report_of verdicts time) (codes "**") _ refl refl stars

budget_untimed : (budget : ℕ) → IsUntimed (budget_line budget)
budget_untimed budget = untimed (budget_line budget) (codes "BUDGET") _ refl refl budget_word

verdict_at : (time : ℕ) (name : List ℕ) (reason : Option (List ℕ)) → IsLineAt time (verdict_line time name reason)
verdict_at time name None = (_, refl)
verdict_at time name (Some reason) = (_, refl)

skips_at : (time : ℕ) (cases : List Case) → AreAt time (map (λ (case : Case). skip_line time case.name) cases)
skips_at time [] = tt
skips_at time (case ∷ cases) = ((_, refl), skips_at time cases)

-- ---- begins and ends of tests

module _ (now : ℕ) where
  due_by : (b : Bool) (latest due : ℕ) → now ≤ due → IfSome (if b then None else Some due) (λ (d : ℕ). now ≤ d)
  due_by true latest due l = tt
  due_by false latest due l = l

  deadline_timed : (r : Answer ℕ) (c : Rig) → IsTimed now c → IsTimed now (with_deadline r c)
  deadline_timed (Ok n) c h = record {
    time = h.time;
    updates = h.updates;
    leaves = h.leaves;
    deadline = due_by (nat_lt last_time (c.sim.time + n)) last_time (c.sim.time + n) (let t = h.time in omega (arith, t));
    planned = h.planned;
  }
  deadline_timed (Err kind) c h = h

  limit_timed : (step_fs : ℕ) (limit : Option Limit) (c : Rig) → IsTimed now c → IsTimed now (with_limit step_fs limit c)
  limit_timed step_fs None c h = h
  limit_timed step_fs (Some limit) c h = deadline_timed (limit_steps step_fs limit) c h

  test_timed : (setup : Setup) (case : Case) (r : Answer (List Value)) (c : Rig) → IsTimed now c → IsTimed now (with_test setup case r c)
  test_timed setup case (Ok values) c h = limit_timed setup.flat.step_fs case.time _ h
  test_timed setup case (Err kind) c h = h

  begin_timed : (setup : Setup) (case : Case) (c : Rig) → IsTimed now c → IsTimed now (test_begun setup case c)
  begin_timed setup case c h = test_timed setup case (values_of case.arguments) c h

  end_timed : (c : Rig) → IsTimed now c → IsTimed now (ended c)
  end_timed c h = record { time = h.time; updates = h.updates; leaves = none now; deadline = tt; planned = tt }

  plan_timed : (c : Rig) → IsTimed now c → IsTimed now (start_planned c)
  plan_timed c h = record {
    time = h.time;
    updates = h.updates;
    leaves = h.leaves;
    deadline = h.deadline;
    planned = let t = h.time in omega (arith, t);
  }

-- ---- runs

-- Nothing is left to come before the time at which the run stands, and its lines are in order of time up to then.
record Holds (c : Run) : Type 0 where
  times : IsTimed c.rig.sim.time c.rig
  fired : c.rig.fired ≡ []
  lines : RiseTo 0 c.lines c.rig.sim.time

holds_at : (now : ℕ) (c : Run) → IsTimed now c.rig → c.rig.fired ≡ [] → RiseTo 0 c.lines now → Holds c
holds_at now c h none k = record {
  times = subst (λ (n : ℕ). IsTimed n c.rig) (sym h.time) h;
  fired = none;
  lines = subst (λ (n : ℕ). RiseTo 0 c.lines n) (sym h.time) k;
}

-- with lines more of the time at which the run stands
more_lines : (c : Run) (lines : List (List ℕ)) → RiseTo 0 c.lines c.rig.sim.time → AreAt c.rig.sim.time lines → RiseTo 0 (c.lines ++ lines) c.rig.sim.time
more_lines c lines h k = rise_then 0 c.rig.sim.time c.rig.sim.time c.lines lines h (all_rise c.rig.sim.time lines k)

closed_holds : (c : Run) → Holds c → Holds (closed c)
closed_holds c h = record {
  times = h.times;
  fired = h.fired;
  lines = rise_then 0 c.rig.sim.time c.rig.sim.time c.lines (report_of c.verdicts c.rig.sim.time ∷ []) h.lines (inr (report_untimed c.verdicts c.rig.sim.time, omega arith));
}

skips_hold : (cases : List Case) (c : Run) → Holds c → Holds (with_skips cases c)
skips_hold cases c h = record { times = h.times; fired = h.fired; lines = more_lines c _ h.lines (skips_at c.rig.sim.time cases) }

judged_holds : (reason : Option (List ℕ)) (case : Case) (c : Run) → Holds c → Holds (judged reason case c)
judged_holds reason case c h = record {
  times = end_timed c.rig.sim.time c.rig h.times;
  fired = refl;
  lines = more_lines c _ h.lines (verdict_at c.rig.sim.time case.name reason, tt);
}

planned_holds : (cases : List Case) (c : Run) → Holds c → Holds (planned cases c)
planned_holds [] c h = closed_holds c h
planned_holds (case ∷ cases) c h = record { times = plan_timed c.rig.sim.time c.rig h.times; fired = h.fired; lines = h.lines }

module _ (setup : Setup) where
  begun_holds : (cases : List Case) (c : Run) → Holds c → Holds (begun setup cases c)
  begun_holds [] c h = closed_holds c h
  begun_holds (case ∷ cases) c h =
      holds_at c.rig.sim.time (begun setup (case ∷ cases) c) (begin_timed c.rig.sim.time setup case c.rig h.times) (begun_fired setup case c.rig ∙ h.fired)
      (more_lines c (test_line c.rig.sim.time case.name ∷ []) h.lines ((_, refl), tt))

  -- behind a step of the configuration
  stepped_holds : (c d : Run) → Holds c → d.rig ≡ (rig_step setup c.rig).rig → d.lines ≡ c.lines ++ (rig_step setup c.rig).lines → Holds d
  stepped_holds c d h rig lines =
      let s = rig_step setup c.rig in
      let m : Moves c.rig.sim.time s = step_moves setup c.rig h.fired h.times in
      record {
        times = subst (λ (r : Rig). IsTimed r.sim.time r) (sym rig) m.times;
        fired = ap (λ (r : Rig). r.fired) rig ∙ (step_fired setup c.rig ∙ h.fired);
        lines = subst (λ (r : Rig). RiseTo 0 d.lines r.sim.time) (sym rig)
            (subst (λ (l : List (List ℕ)). RiseTo 0 l s.rig.sim.time) (sym lines) (rise_then 0 c.rig.sim.time s.rig.sim.time c.lines s.lines h.lines m.lines));
      }

  in_holds : (case : Case) (cases : List Case) (o : Option Outcome) (c : Run) → Holds c → Holds (step_in setup case cases o c)
  in_holds case cases (Some outcome) c h =
      let reason : Option (List ℕ) = reason_of setup.flat case outcome in
      planned_holds (unskipped cases) (with_skips (skipped cases) (judged reason case c)) (skips_hold (skipped cases) (judged reason case c) (judged_holds reason case c h))
  in_holds case cases None c h = stepped_holds c (step_in setup case cases None c) h refl refl

  at_holds : (p : Place) (c : Run) → Holds c → Holds (step_at setup p c)
  at_holds (Begins cases) c h = begun_holds (unskipped cases) (with_skips (skipped cases) c) (skips_hold (skipped cases) c h)
  at_holds (Runs case cases) c h = in_holds case cases c.rig.outcome c h
  at_holds (Waits cases) c h = stepped_holds c (step_at setup (Waits cases) c) h refl refl
  at_holds Over c h = h

  opening_holds : (seed : ℕ) (cases : List Case) → Holds (opening setup seed cases)
  opening_holds seed cases = record {
    times = record { time = refl; updates = tt; leaves = none _; deadline = tt; planned = tt };
    fired = refl;
    lines = omega arith;
  }

  reached_holds : (seed : ℕ) (cases : List Case) (run : Run) → IsReached setup seed cases run → Holds run
  reached_holds seed cases run r = reached_each setup Holds (λ c h. at_holds c.place c h) seed cases run (opening_holds seed cases) r

-- with the line that says that the budget is reached
written_rise : (over stopped : Bool) (budget : ℕ) (c : Run) → RiseTo 0 c.lines c.rig.sim.time
    → RiseTo 0 (if over then c.lines else (if stopped then c.lines else c.lines ++ budget_line budget ∷ [])) c.rig.sim.time
written_rise true stopped budget c h = h
written_rise false true budget c h = h
written_rise false false budget c h =
    rise_then 0 c.rig.sim.time c.rig.sim.time c.lines (budget_line budget ∷ []) h (inr (budget_untimed budget, omega arith))

pub lines_rise : Lines_rise
lines_rise setup seed cases budget run r =
    written_rise (goes setup budget run) (is_over run.place) budget run (reached_holds setup seed cases run r).lines

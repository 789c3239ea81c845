-- A test that runs, as steps of a run.
use Rattle.std.proofs.Common.{◌≡◌, ℕ, suc, ◌+◌, ◌≤◌, ◌<◌, true, false, List, [], ◌∷◌, ◌++◌, length, Option, None, Some, Result, Ok, Err, IsErr, refl, ap, sym, subst, ◌∙◌, arith, append_assoc, append-nil, length-append}
use Rattle.std.specs.Prelude.{IfOk, is_some}
use Rattle.std.specs.List.{slice_get}
use Rattle.std.proofs.lemmas.List.{length-map}
use Rattle.port_io.specs.Ports.{TakesAll}
use Rattle.port_io.specs.PutsPart.{PutsPart}
use Rattle.port_io.specs.Means.{SinkMeans, PutsTo}
use Rattle.port_io.specs.PutLaws.{takes_one, takes_then}
use Rattle.port_io.proofs.PartLaws.{puts_to_then}
use Rattle.port_io.specs.declared.ports.NoMemory.{NoMemory}
use Rattle.port_io.specs.declared.ports.SinkFault.{SinkFault}
use Rattle.port_io.specs.declared.ports.SinkFault.TheVariants.{Failed, OutOfMemory}
use Rattle.gpi.specs.Content.{Content}
use Rattle.gpi.specs.Limits.{latest_time}
use Rattle.await_tree.specs.Check.{last_time}
use Rattle.test_meaning.specs.Body.BodyTrees.{Case}
use Rattle.test_meaning.specs.Body.Sound.{most_cases}
use Rattle.test_meaning.specs.Body.Views.{view_case}
use Rattle.test_meaning.specs.declared.body.file.TestCase.{TestCase}
use Rattle.rig_model.specs.Run.Case.{ended, test_begun}
use Rattle.rig_model.specs.Run.Line.{budget_line, test_line, verdict_line}
use Rattle.rig_model.specs.Run.Rig.{Rig, Setup}
use Rattle.rig_model.specs.Run.Run.{Run, IsRun, judged, opening, planned, skipped, steps, unskipped, with_skips, written}
use Rattle.rig_model.specs.Run.Verdict.{reason_of, verdict_of}
use Rattle.rig_model.specs.declared.run.outcome.Outcome.{Outcome}
use Rattle.rig_model.specs.Parts.Fits.{StandsFor}
use Rattle.rig_model.specs.Parts.Steps.{FitSteps, anywhere, Short, Begins}
use Rattle.scheduler.proofs.Runs.{time_bounded}
use Rattle.run_state.specs.Lines.Tallies.{tally_of}
use Rattle.scheduler.specs.Turns.{BeginsTo, Turning, TurnsTo, turn_fault}
use Rattle.scheduler.specs.declared.turned.Turn.{Turn}
use Rattle.scheduler.specs.declared.turned.Turn.TheVariants as turn
use Rattle.command.specs.Regression.Reached.{Reached, Pending, run_in}
use Rattle.command.specs.Regression.Runs.{EndsTo, PutsStart, RunsTo}
use Rattle.command.specs.Regression.Stages.{AfterEnd, IsPending, Judged, Judges, StepsTo, TestsTo, cases_from, cases_of, skip_lines, skips_of}
use Rattle.command.specs.declared.regression.progress.Progress.{Progress}
use Rattle.command.specs.declared.regression.status.Status.{Status}
use Rattle.command.specs.declared.regression.status.Status.TheVariants as status
use Rattle.command.proofs.RegressionLemmas.Puts.{planned_lines, run_ends, start_then}
use Rattle.command.proofs.RegressionLemmas.RunLaws.{pending_last, pending_step, reached_end, reached_short, reached_start, reached_steps}
use Rattle.command.proofs.RegressionLemmas.Skipping.{case_at, unskipped_twice}
use Rattle.command.proofs.RegressionLemmas.Stands.{stands_rest}

-- ---- from the begin and turns to a test

none_begins : (setup : Setup) (fuel : ℕ) (c : Rig) → Begins (FitSteps anywhere setup) fuel c []
unfolding FitSteps
none_begins setup fuel c = record { count = 0; left = fuel; last = c; steps = (refl, refl, refl) }

none_steps : (setup : Setup) (fuel : ℕ) (c d : Rig) → d ≡ c → (count : ℕ) × FitSteps anywhere setup count fuel c [] fuel d
unfolding FitSteps
none_steps setup fuel c d e = (0, (refl, refl, e))

module _ {O : Type 0} (sink : SinkMeans O) (setup : Setup) (case : Case) (fuel : ℕ) (c : Rig) (out : O) where
  abbrev own : List ℕ
  own = test_line c.sim.time case.name

  -- memory was short
  pub begins_short : (r : Result Turn NoMemory) (e : Rig) (out' : O) → IsErr r → PutsPart sink.takes sink.told out (own ∷ []) out' → TestsTo sink setup case fuel c out r fuel e out'
  begins_short (Ok t) e out' h p = cc
  begins_short (Err x) e out' h p = record { lines = []; steps = none_begins setup fuel (test_begun setup case c); puts = p }

  -- it has ended before its first statement, or its line wasn't taken
  pub begins_only : (t : Turn) (e : Rig) (out' : O) → (t ≡ turn.Went → ⊥) → BeginsTo sink setup case c (Ok t) e out out' → TestsTo sink setup case fuel c out (Ok t) fuel e out'
  begins_only turn.Went e out' n b = absurd (n refl)
  begins_only turn.Due e out' n b = absurd b
  begins_only (turn.Over o) e out' n b = record {
    lines = [];
    steps = none_steps setup fuel (test_begun setup case c) (record e { outcome = Some o }) b.0;
    puts = takes_one sink.takes sink.breaks out own out' b.1;
  }
  begins_only turn.Spent e out' n b = absurd b
  begins_only turn.WriteFault e out' n b = record { lines = []; steps = none_begins setup fuel (test_begun setup case c); puts = ([], own, [], refl, (out, refl, b)) }

  -- it has begun
  pub begins_went : (r : Result Turn NoMemory) (e : Rig) (out' : O) → r ≡ Ok turn.Went → BeginsTo sink setup case c r e out out' → (e ≡ test_begun setup case c) × sink.takes out own out'
  begins_went r e out' h b = subst (λ (x : Result Turn NoMemory). BeginsTo sink setup case c x e out out') h b

  -- turns of a test that don't go on
  tests_steps : (lines : List (List ℕ)) (r : Result Turn NoMemory) (d : Rig) (fuel' : ℕ) (e : Rig) → d.planned ≡ None → (r ≡ Ok turn.Went → ⊥)
      → TurnsTo (FitSteps anywhere setup) setup fuel d lines r fuel' e → StepsTo setup fuel d lines r fuel' e
  tests_steps lines (Ok turn.Went) d fuel' e p n h = n refl
  tests_steps lines (Ok turn.Due) d fuel' e p n h = let k : true ≡ false = sym h.1 ∙ ap (λ (o : Option ℕ). is_some o) p in cc
  tests_steps lines (Ok (turn.Over o)) d fuel' e p n h = (suc h.count, h.steps)
  tests_steps lines (Ok turn.Spent) d fuel' e p n h = h
  tests_steps lines (Ok turn.WriteFault) d fuel' e p n h = h
  tests_steps lines (Err x) d fuel' e p n h = h

  pub tests_turns : (d : Rig) (mid : O) (r : Result Turn NoMemory) (fuel' : ℕ) (e : Rig) (out' : O) → d ≡ test_begun setup case c → sink.takes out own mid → d.planned ≡ None
      → (r ≡ Ok turn.Went → ⊥) → Turning sink (FitSteps anywhere setup) setup fuel d mid r fuel' e out' → TestsTo sink setup case fuel c out r fuel' e out'
  tests_turns d mid r fuel' e out' h t p n w = record {
    lines = w.lines;
    steps = subst (λ (x : Rig). StepsTo setup fuel x w.lines r fuel' e) h (tests_steps w.lines r d fuel' e p n w.turns);
    puts = puts_to_then sink out (own ∷ []) mid w.lines (turn_fault r) out' (takes_one sink.takes sink.breaks out own mid t) w.puts;
  }

-- ---- from a test to a run

module _ {O : Type 0} (sink : SinkMeans O) (setup : Setup) (seed : ℕ) (cases : List TestCase) (budget : ℕ) (p : Progress) (fuel : ℕ) (rig : Rig) (first out : O)
    (pend : IsPending sink setup seed cases budget p fuel rig first out) (case : TestCase) (there : slice_get cases p.at ≡ Some case) where
  abbrev all : List Case
  all = cases_of cases

  abbrev rest : List Case
  rest = cases_from cases (p.at + 1)

  abbrev run : Run
  run = pend.run

  abbrev its : List ℕ
  its = test_line run.rig.sim.time case.name

  -- the lines up to where these more were put
  abbrev lines_with : List (List ℕ) → List (List ℕ)
  lines_with more = run.lines ++ its ∷ more

  abbrev at_rig : Rig → List (List ℕ) → ℕ → Run
  at_rig d lines cost = run_in (view_case case) rest run.verdicts d lines cost

  test_reached : Reached setup seed all budget (at_rig (test_begun setup (view_case case) run.rig) (lines_with []) run.cost)
  test_reached = pending_step setup seed all budget (view_case case ∷ rest) run
      (subst (λ (cs : List Case). Pending setup seed all budget cs run) (case_at cases p.at case there) pend.pending)

  abbrev Came : Rig → List (List ℕ) → ℕ → Type 0
  Came d more fuel' = (cost : ℕ) × (cost + fuel' ≡ budget) × Reached setup seed all budget (at_rig d (lines_with more) cost)

  steps_reached : (n : ℕ) (more : List (List ℕ)) (fuel' : ℕ) (d : Rig) → FitSteps anywhere setup n fuel (test_begun setup (view_case case) run.rig) more fuel' d → Came d more fuel'
  steps_reached n more fuel' d h =
      let r : (cost : ℕ) × (cost + fuel' ≡ budget) × Reached setup seed all budget (at_rig d (lines_with [] ++ more) cost)
      = reached_steps setup seed all budget (view_case case) rest run.verdicts n (test_begun setup (view_case case) run.rig) (lines_with []) run.cost fuel more fuel' d test_reached pend.stands.cost h in
      (r.0, r.1, subst (λ (ls : List (List ℕ)). Reached setup seed all budget (at_rig d ls r.0)) (append_assoc run.lines (its ∷ []) more) r.2)

  -- what a test comes to from the configuration of the run
  abbrev Own : Result Turn NoMemory → ℕ → Rig → O → Type 0
  Own r fuel' e out' = TestsTo sink setup (view_case case) fuel run.rig out r fuel' e out'

  as_own : (r : Result Turn NoMemory) (fuel' : ℕ) (e : Rig) (out' : O) → TestsTo sink setup (view_case case) fuel rig out r fuel' e out' → Own r fuel' e out'
  as_own r fuel' e out' t = subst (λ (c : Rig). TestsTo sink setup (view_case case) fuel c out r fuel' e out') (sym pend.stands.rig_is) t

  begins_start : (fault : SinkFault) (more : List (List ℕ)) (out' : O) → Begins (FitSteps anywhere setup) fuel (test_begun setup (view_case case) run.rig) more
      → PutsTo sink out (its ∷ more) (Some fault) out' → PutsStart sink setup seed all budget fault first out'
  begins_start fault more out' b puts =
      let r : Came b.last more b.left = steps_reached b.count more b.left b.last b.steps in
      start_then sink setup seed all budget run.lines (its ∷ more) fault first out out'
      (reached_start setup seed all budget (at_rig b.last (lines_with more) r.0) (lines_with more) [] r.2 (sym (append-nil (lines_with more)))) pend.stands.taken puts

  -- a put failed
  pub case_broken : (fuel' : ℕ) (e : Rig) (out' : O) → TestsTo sink setup (view_case case) fuel rig out (Ok turn.WriteFault) fuel' e out' → PutsStart sink setup seed all budget Failed first out'
  case_broken fuel' e out' t = let w : Own (Ok turn.WriteFault) fuel' e out' = as_own (Ok turn.WriteFault) fuel' e out' t in begins_start Failed w.lines out' w.steps w.puts

  -- memory was short
  pub case_cut : (x : NoMemory) (fuel' : ℕ) (e : Rig) (out' : O) → TestsTo sink setup (view_case case) fuel rig out (Err x) fuel' e out' → PutsStart sink setup seed all budget OutOfMemory first out'
  case_cut x fuel' e out' t = let w : Own (Err x) fuel' e out' = as_own (Err x) fuel' e out' t in begins_start OutOfMemory w.lines out' w.steps w.puts

  -- the budget is reached
  module _ (fuel' : ℕ) (e : Rig) (mid : O) (t : TestsTo sink setup (view_case case) fuel rig out (Ok turn.Spent) fuel' e mid) where
    spent : Own (Ok turn.Spent) fuel' e mid
    spent = as_own (Ok turn.Spent) fuel' e mid t

    short : Short (FitSteps anywhere setup) setup fuel (test_begun setup (view_case case) run.rig) spent.lines fuel' e
    short = spent.steps

    short_came : Came short.last spent.lines fuel'
    short_came = steps_reached short.count spent.lines fuel' short.last short.steps

    short_is : IsRun setup seed all budget (at_rig short.last (lines_with spent.lines) short_came.0)
    short_is = reached_short setup seed all budget (view_case case) rest run.verdicts short.last (lines_with spent.lines) short_came.0 fuel' short_came.2 short_came.1 short.no_fit.runs short.no_fit.short

    short_lines : written setup budget (at_rig short.last (lines_with spent.lines) short_came.0) ≡ lines_with spent.lines ++ budget_line budget ∷ []
    short_lines = let h = short_is.stopped in rw h refl

    pub case_short : (content : Content) (s : Status) (out' : O) → StandsFor setup content e → EndsTo sink (budget_line budget ∷ []) status.Budget s mid out' → RunsTo sink setup seed all budget s e content first out'
    case_short content s out' k h =
        run_ends sink setup seed all budget (at_rig short.last (lines_with spent.lines) short_came.0) short_is (lines_with spent.lines) (budget_line budget ∷ []) short_lines first mid
        (takes_then sink.takes sink.breaks first run.lines out (its ∷ spent.lines) mid pend.stands.taken spent.puts)
        e content short.no_fit.rest short.no_fit.tasks (stands_rest setup content short.last e short.no_fit.rest k) status.Budget s out' refl h

  -- the test has its outcome
  module _ (fuel' : ℕ) (e : Rig) (mid : O) (o : Outcome) (t : TestsTo sink setup (view_case case) fuel rig out (Ok (turn.Over o)) fuel' e mid) where
    over : Own (Ok (turn.Over o)) fuel' e mid
    over = as_own (Ok (turn.Over o)) fuel' e mid t

    abbrev last : Rig
    last = record e { outcome = Some o }

    over_came : Came last over.lines fuel'
    over_came = let s : (count : ℕ) × FitSteps anywhere setup count fuel (test_begun setup (view_case case) run.rig) over.lines fuel' last = over.steps in steps_reached s.0 over.lines fuel' last s.1

    abbrev final : Run
    final = at_rig last (lines_with over.lines) over_came.0

    abbrev reason : Option (List ℕ)
    reason = reason_of setup.flat (view_case case) o

    -- the run before its next test is planned
    abbrev told : Run
    told = with_skips (skipped rest) (judged reason (view_case case) final)

    abbrev ending : List (List ℕ)
    ending = verdict_line e.sim.time case.name reason ∷ skip_lines e.sim.time (skipped rest)

    told_reached : Reached setup seed all budget (planned (unskipped rest) told)
    told_reached = reached_end setup seed all budget (view_case case) rest run.verdicts last (lines_with over.lines) over_came.0 fuel' o over_came.2 over_came.1 refl

    over_taken : TakesAll sink.takes first (lines_with over.lines) mid
    over_taken = takes_then sink.takes sink.breaks first run.lines out (its ∷ over.lines) mid pend.stands.taken over.puts

    told_lines : told.lines ≡ lines_with over.lines ++ ending
    told_lines = append_assoc (lines_with over.lines) (verdict_line e.sim.time case.name reason ∷ []) (skip_lines e.sim.time (skipped rest))

    -- it comes no later than it may
    pub case_early : length cases ≤ most_cases → e.sim.time < latest_time
    case_early few =
        let r : Reached setup seed all budget final = over_came.2 in
        let late : (steps setup budget r.count (opening setup seed all)).rig.sim.time ≤ last_time + length all = time_bounded setup seed all budget r.count in
        let same : (steps setup budget r.count (opening setup seed all)).rig.sim.time ≡ e.sim.time = ap (λ (c : Run). c.rig.sim.time) r.is in
        let many : length all ≡ length cases = length-map cases view_case in
        let most : length cases ≤ 65536 = few in
        omega arith

    after_end : (r : Result Progress SinkFault) (out' : O) → Judges sink e.sim.time cases p (view_case case) reason r mid out'
        → AfterEnd sink setup seed cases budget r fuel' (ended e) first out'
    after_end (Err fault) out' j =
        let more : (ls : List (List ℕ)) × ((planned (unskipped rest) told).lines ≡ told.lines ++ ls) = planned_lines (unskipped rest) told in
        start_then sink setup seed all budget (lines_with over.lines) ending fault first mid out'
        (reached_start setup seed all budget (planned (unskipped rest) told) (lines_with over.lines ++ ending) more.0 told_reached (more.1 ∙ ap (λ (ls : List (List ℕ)). ls ++ more.0) told_lines))
        over_taken j.puts
    after_end (Ok q) out' j =
        let d : Judged cases p (verdict_of reason) q = j.judged in
        let one : d.behind.at ≡ p.at + 1 = d.counts.places in
        let left : cases_from cases q.at ≡ unskipped rest = d.over.left ∙ ap (λ (n : ℕ). unskipped (cases_from cases n)) one in
        let skips : skipped (cases_from cases d.behind.at) ≡ skipped rest = ap (λ (n : ℕ). skipped (cases_from cases n)) one in
        record {
          run = told;
          last = λ none. pending_last setup seed all budget (view_case case) rest last (lines_with over.lines) run.verdicts over_came.0 o over_came.2
              (let k : over_came.0 + fuel' ≡ budget = over_came.1 in omega arith) refl (sym left ∙ none);
          next = subst (λ (cs : List Case). Reached setup seed all budget (planned cs told)) (sym left) told_reached;
          stands = record {
            within = d.over.within;
            unskipped_is = ap unskipped left ∙ unskipped_twice rest ∙ sym left;
            rig_is = refl;
            taken = subst (λ (ls : List (List ℕ)). TakesAll sink.takes first ls out') (sym told_lines)
                (takes_then sink.takes sink.breaks first (lines_with over.lines) mid ending out' over_taken j.puts);
            counted = d.over.counted (run.verdicts ++ verdict_of reason ∷ []) (d.counts.counted run.verdicts pend.stands.counted)
                ∙ ap (λ (cs : List Case). tally_of ((run.verdicts ++ verdict_of reason ∷ []) ++ skips_of cs)) skips;
            places =
                let a : length told.verdicts ≡ length (run.verdicts ++ verdict_of reason ∷ []) + length (skips_of (skipped rest))
                = length-append (run.verdicts ++ verdict_of reason ∷ []) (skips_of (skipped rest)) in
                let b : length (run.verdicts ++ verdict_of reason ∷ []) ≡ length run.verdicts + 1 = length-append run.verdicts (verdict_of reason ∷ []) in
                let k : length (skips_of (skipped rest)) ≡ length (skipped rest) = length-map (skipped rest) _ in
                let l : length (skipped (cases_from cases d.behind.at)) ≡ length (skipped rest) = ap length skips in
                let m : q.at ≡ d.behind.at + length (skipped (cases_from cases d.behind.at)) = d.over.places in
                let n : length run.verdicts ≡ p.at = pend.stands.places in
                omega arith;
            cost = over_came.1;
          };
        }

    pub case_over : (e' : Rig) (time : ℕ) (r : Result Progress SinkFault) (out' : O) → e' ≡ ended e → time ≡ e.sim.time → Judges sink time cases p (view_case case) reason r mid out'
        → AfterEnd sink setup seed cases budget r fuel' e' first out'
    case_over e' time r out' h k j =
        subst (λ (c : Rig). AfterEnd sink setup seed cases budget r fuel' c first out') (sym h)
        (after_end r out' (subst (λ (n : ℕ). Judges sink n cases p (view_case case) reason r mid out') k j))

-- the place behind the test
pub behind_least : {O : Type 0} (sink : SinkMeans O) (time : ℕ) (cases : List TestCase) (p : Progress) (case : Case) (reason : Option (List ℕ)) (r : Result Progress SinkFault) (out out' : O)
    → Judges sink time cases p case reason r out out' → IfOk r (λ (q : Progress). p.at + 1 ≤ q.at)
behind_least sink time cases p case reason (Ok q) out out' j =
    let d : Judged cases p (verdict_of reason) q = j.judged in
    let one : d.behind.at ≡ p.at + 1 = d.counts.places in
    let m : q.at ≡ d.behind.at + length (skipped (cases_from cases d.behind.at)) = d.over.places in
    omega arith
behind_least sink time cases p case reason (Err f) out out' j = tt

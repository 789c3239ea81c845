-- The begin of a run, the wait for its next test, and its end.
use Rattle.std.proofs.Common.{◌≡◌, ℕ, suc, ◌+◌, ◌-◌, ◌≤◌, ◌<◌, true, false, List, [], ◌∷◌, ◌++◌, length, Option, None, Some, Ok, Err, refl, ap, sym, subst, ◌∙◌, arith, append-nil}
use Rattle.std.specs.Prelude.{is_some}
use Rattle.std.specs.List.{list_any}
use Rattle.std.proofs.lemmas.List.{length-map}
use Rattle.port_io.specs.Ports.{TakesAll}
use Rattle.port_io.specs.Means.{SinkMeans, PutsTo}
use Rattle.port_io.specs.PutLaws.{takes_then}
use Rattle.port_io.specs.declared.ports.NoMemory.{NoMemory}
use Rattle.port_io.specs.declared.ports.SinkFault.{SinkFault}
use Rattle.port_io.specs.declared.ports.SinkFault.TheVariants.{Failed, OutOfMemory}
use Rattle.gpi.specs.Content.{Content, no_counts}
use Rattle.run_view.specs.RandomStream.Generator.{seeded}
use Rattle.test_meaning.specs.Body.BodyTrees.{Case}
use Rattle.test_meaning.specs.declared.body.file.TestCase.{TestCase}
use Rattle.run_state.specs.Lines.Tallies.{tally_of}
use Rattle.rig_model.specs.Run.Case.{emptied, start_planned}
use Rattle.rig_model.specs.Run.Line.{budget_line}
use Rattle.rig_model.specs.Run.Rig.{Rig, Setup}
use Rattle.rig_model.specs.Run.Run.{Run, Place, Begins, Waits, IsRun, begun, closed, opening, opening_sim, place_by, planned, skipped, unskipped, with_skips, written}
use Rattle.rig_model.specs.Run.Verdict.{is_fail, report_of}
use Rattle.rig_model.specs.Parts.Fits.{StandsFor}
use Rattle.rig_model.specs.Parts.Runs.{is_planned}
use Rattle.rig_model.specs.Parts.Steps.{FitSteps, Moves, Short}
use Rattle.rig_model.specs.Parts.Steps as parts
use Rattle.scheduler.specs.Turns.{TurnsTo}
use Rattle.scheduler.specs.declared.turned.Turn.TheVariants as turn
use Rattle.command.specs.Regression.Reached.{Reached, Pending, run_at}
use Rattle.command.specs.Regression.Runs.{EndsTo, PutsStart, RunsTo, verdict_status}
use Rattle.command.specs.Regression.Stages.{IsEmpty, IsEnded, IsPending, IsWaiting, Skips, SkipsOver, WaitTurns, cases_from, cases_of, skip_lines, skips_of}
use Rattle.command.specs.declared.regression.progress.Progress.{Progress}
use Rattle.command.specs.declared.regression.status.Status.{Status}
use Rattle.command.specs.declared.regression.status.Status.TheVariants as status
use Rattle.command.proofs.RegressionLemmas.Puts.{begun_lines, run_ends, start_none_more, start_then}
use Rattle.command.proofs.RegressionLemmas.RunLaws.{at_wait, begins_as, closes, in_wait, pending_due, pending_first, pending_step, reached_as, reached_start, reached_waits, waits_short}
use Rattle.command.proofs.RegressionLemmas.Skipping.{count_from, first_runs, none_from, unskipped_twice}
use Rattle.command.proofs.RegressionLemmas.Stands.{same_rest, same_tasks, stands_rest}

module _ {O : Type 0} (sink : SinkMeans O) (setup : Setup) (seed : ℕ) (cases : List TestCase) (budget : ℕ) where
  abbrev all : List Case
  all = cases_of cases

  -- ---- the begin

  module _ (p : Progress) (start : p.at ≡ 0) (new : p.tally ≡ tally_of []) (rig : Rig) (opens : rig ≡ emptied (opening_sim setup) (seeded seed) no_counts) (out : O) where
    abbrev before : Run
    before = opening setup seed all

    abbrev told : Run
    told = with_skips (skipped all) before

    from_start : cases_from cases p.at ≡ all
    from_start = ap (cases_from cases) start

    same_time : (time : ℕ) → time ≡ rig.sim.time → time ≡ before.rig.sim.time
    same_time time h = h ∙ ap (λ (c : Rig). c.sim.time) opens

    first_run : (q : Progress) (out' : O) → SkipsOver cases p q → TakesAll sink.takes out (skip_lines before.rig.sim.time (skipped (cases_from cases p.at))) out'
        → IsPending sink setup seed cases budget q budget rig out out'
    first_run q out' s t =
        let left : cases_from cases q.at ≡ unskipped all = s.left ∙ ap unskipped from_start in
        let skips : skipped (cases_from cases p.at) ≡ skipped all = ap skipped from_start in
        record {
          run = told;
          pending = subst (λ (cs : List Case). Pending setup seed all budget cs told) (sym left) (pending_first setup seed all budget);
          stands = record {
            within = s.within;
            unskipped_is = ap unskipped left ∙ unskipped_twice all ∙ sym left;
            rig_is = sym opens;
            taken = subst (λ (cs : List Case). TakesAll sink.takes out (skip_lines before.rig.sim.time cs) out') skips t;
            counted = s.counted [] new ∙ ap (λ (cs : List Case). tally_of (skips_of cs)) skips;
            places =
                let k : length (skips_of (skipped all)) ≡ length (skipped all) = length-map (skipped all) _ in
                let l : length (skipped (cases_from cases p.at)) ≡ length (skipped all) = ap length skips in
                let m : q.at ≡ p.at + length (skipped (cases_from cases p.at)) = s.places in
                omega (arith, start);
            cost = let k : 0 + budget ≡ budget = omega arith in k;
          };
        }

    -- the tests that are skipped first were told
    pub opens_pending : (time : ℕ) (q : Progress) (out' : O) → time ≡ rig.sim.time → Skips sink time cases p (Ok q) out out' → IsPending sink setup seed cases budget q budget rig out out'
    opens_pending time q out' h s =
        first_run q out' s.over (subst (λ (n : ℕ). TakesAll sink.takes out (skip_lines n (skipped (cases_from cases p.at))) out') (same_time time h) s.puts)

    -- or not all of them
    pub opens_broken : (time : ℕ) (fault : SinkFault) (out' : O) → time ≡ rig.sim.time → Skips sink time cases p (Err fault) out out' → PutsStart sink setup seed all budget fault out out'
    opens_broken time fault out' h s =
        let lines : List (List ℕ) = skip_lines before.rig.sim.time (skipped all) in
        let more : (ls : List (List ℕ)) × ((begun setup (unskipped all) told).lines ≡ told.lines ++ ls) = begun_lines setup (unskipped all) told in
        let puts : PutsTo sink out (skip_lines before.rig.sim.time (skipped (cases_from cases p.at))) (Some fault) out'
        = subst (λ (n : ℕ). PutsTo sink out (skip_lines n (skipped (cases_from cases p.at))) (Some fault) out') (same_time time h) s.puts in
        start_then sink setup seed all budget [] lines fault out out out'
        (reached_start setup seed all budget (begun setup (unskipped all) told) lines more.0 (pending_step setup seed all budget (unskipped all) told (pending_first setup seed all budget)) more.1)
        refl
        (subst (λ (cs : List Case). PutsTo sink out (skip_lines before.rig.sim.time cs) (Some fault) out') (ap skipped from_start) puts)

  -- ---- the end

  -- all tests have their verdicts
  pub run_closes : (p : Progress) (fuel : ℕ) (rig : Rig) (first out : O) (content : Content) (time : ℕ) (s : Status) (out' : O) (pend : IsPending sink setup seed cases budget p fuel rig first out)
      → length cases ≤ p.at → IsEmpty rig → StandsFor setup content rig → time ≡ rig.sim.time
      → ((verdicts : List _) → p.tally ≡ tally_of verdicts → EndsTo sink (report_of verdicts time ∷ []) (verdict_status (list_any is_fail verdicts)) s out out')
      → RunsTo sink setup seed all budget s rig content first out'
  run_closes p fuel rig first out content time s out' pend behind empty stands now ends =
      let run : Run = pend.run in
      let same : run.rig ≡ rig = pend.stands.rig_is in
      let is : IsRun setup seed all budget (closed run) = closes setup seed all budget run (subst (λ (cs : List Case). Pending setup seed all budget cs run) (none_from cases p.at behind) pend.pending) in
      let at : time ≡ run.rig.sim.time = now ∙ ap (λ (c : Rig). c.sim.time) (sym same) in
      run_ends sink setup seed all budget (closed run) is run.lines (report_of run.verdicts run.rig.sim.time ∷ []) refl first out pend.stands.taken rig content
      (same_rest run.rig rig same) (same_tasks run.rig rig same empty) (subst (StandsFor setup content) (sym same) stands)
      (verdict_status (list_any is_fail run.verdicts)) s out' refl
      (subst (λ (n : ℕ). EndsTo sink (report_of run.verdicts n ∷ []) (verdict_status (list_any is_fail run.verdicts)) s out out') at (ends run.verdicts pend.stands.counted))

  -- ---- the wait

  -- no test is left
  pub ended_last : (p : Progress) (fuel : ℕ) (rig : Rig) (first out : O) → length cases ≤ p.at → IsEnded sink setup seed cases budget p fuel rig first out → IsPending sink setup seed cases budget p fuel rig first out
  ended_last p fuel rig first out behind h =
      let none : cases_from cases p.at ≡ [] = none_from cases p.at behind in
      record {
        run = h.run;
        pending = subst (λ (cs : List Case). Pending setup seed all budget cs h.run) (sym none) (h.last none);
        stands = h.stands;
      }

  -- there was no memory for the start of the next one
  pub ended_cut : (p : Progress) (fuel : ℕ) (rig : Rig) (first out : O) → p.at < length cases → IsEnded sink setup seed cases budget p fuel rig first out → PutsStart sink setup seed all budget OutOfMemory first out
  ended_cut p fuel rig first out within h = by_cases (cases_from cases p.at) refl
    where
      by_cases : (cs : List Case) → cases_from cases p.at ≡ cs → PutsStart sink setup seed all budget OutOfMemory first out
      by_cases [] e = let n : length cases - p.at ≡ 0 = sym (count_from cases p.at) ∙ ap length e in absurd (omega arith)
      by_cases (c ∷ cs) e =
          start_none_more sink setup seed all budget (planned (c ∷ cs) h.run) first out (subst (λ (xs : List Case). Reached setup seed all budget (planned xs h.run)) e h.next) h.stands.taken

  -- its start is planned
  pub ended_waits : (p : Progress) (fuel : ℕ) (rig rig' : Rig) (first out : O) → p.at < length cases → rig' ≡ start_planned rig
      → IsEnded sink setup seed cases budget p fuel rig first out → IsWaiting sink setup seed cases budget p fuel rig' first out
  ended_waits p fuel rig rig' first out within is h = record {
    run = record h.run { rig = start_planned h.run.rig };
    reached = by_cases (cases_from cases p.at) refl;
    stands = record {
      within = h.stands.within;
      unskipped_is = h.stands.unskipped_is;
      rig_is = ap start_planned h.stands.rig_is ∙ sym is;
      taken = h.stands.taken;
      counted = h.stands.counted;
      places = h.stands.places;
      cost = h.stands.cost;
    };
  }
    where
      by_cases : (cs : List Case) → cases_from cases p.at ≡ cs → Reached setup seed all budget (record h.run { rig = start_planned h.run.rig; place = Waits (cases_from cases p.at) })
      by_cases [] e = let n : length cases - p.at ≡ 0 = sym (count_from cases p.at) ∙ ap length e in absurd (omega arith)
      by_cases (c ∷ cs) e =
          subst (λ (xs : List Case). Reached setup seed all budget (record h.run { rig = start_planned h.run.rig; place = Waits xs })) (sym e)
          (subst (λ (xs : List Case). Reached setup seed all budget (planned xs h.run)) e h.next)

  module _ (p : Progress) (fuel : ℕ) (rig : Rig) (first out : O) (waits : IsWaiting sink setup seed cases budget p fuel rig first out) (starts : is_planned rig ≡ true) where
    abbrev run : Run
    run = waits.run

    abbrev left : List Case
    left = cases_from cases p.at

    abbrev at_rig : Rig → List (List ℕ) → ℕ → Run
    at_rig d lines cost = at_wait setup seed all budget left run.verdicts d lines cost

    own_planned : is_planned run.rig ≡ true
    own_planned = ap is_planned waits.stands.rig_is ∙ starts

    place_is : (o : Option ℕ) → run.rig.planned ≡ o → Reached setup seed all budget (at_rig run.rig run.lines run.cost)
    place_is None e = let no : false ≡ true = sym (ap (λ (x : Option ℕ). is_some x) e) ∙ own_planned in cc
    place_is (Some time) e =
        subst (λ (place : Place). Reached setup seed all budget (run_at place run.rig run.lines run.verdicts run.cost)) (sym (ap (λ (x : Option ℕ). place_by x left) e)) waits.reached

    abbrev Came : Rig → List (List ℕ) → ℕ → Type 0
    Came d more fuel' = (cost : ℕ) × (cost + fuel' ≡ budget) × Reached setup seed all budget (at_rig d (run.lines ++ more) cost)

    came : (n : ℕ) (more : List (List ℕ)) (fuel' : ℕ) (d : Rig) → FitSteps is_planned setup n fuel rig more fuel' d → Came d more fuel'
    came n more fuel' d h =
        reached_waits setup seed all budget left run.verdicts n run.rig run.lines run.cost fuel more fuel' d (place_is run.rig.planned refl) waits.stands.cost
        (subst (λ (c : Rig). FitSteps is_planned setup n fuel c more fuel' d) (sym waits.stands.rig_is) h)

    begins_start : (fault : SinkFault) (more : List (List ℕ)) (out' : O) → parts.Begins (FitSteps is_planned setup) fuel rig more → PutsTo sink out more (Some fault) out'
        → PutsStart sink setup seed all budget fault first out'
    begins_start fault more out' b puts =
        let r : Came b.last more b.left = came b.count more b.left b.last b.steps in
        start_then sink setup seed all budget run.lines more fault first out out'
        (reached_start setup seed all budget (at_rig b.last (run.lines ++ more) r.0) (run.lines ++ more) [] r.2 (sym (append-nil (run.lines ++ more)))) waits.stands.taken puts

    -- a put failed
    pub wait_broken : (fuel' : ℕ) (e : Rig) (out' : O) → WaitTurns sink setup fuel rig out (Ok turn.WriteFault) fuel' e out' → PutsStart sink setup seed all budget Failed first out'
    wait_broken fuel' e out' t = begins_start Failed t.turning.lines out' t.turning.turns t.turning.puts

    -- memory was short
    pub wait_cut : (x : NoMemory) (fuel' : ℕ) (e : Rig) (out' : O) → WaitTurns sink setup fuel rig out (Err x) fuel' e out' → PutsStart sink setup seed all budget OutOfMemory first out'
    wait_cut x fuel' e out' t = begins_start OutOfMemory t.turning.lines out' t.turning.turns t.turning.puts

    -- the budget is reached
    module _ (fuel' : ℕ) (e : Rig) (mid : O) (t : WaitTurns sink setup fuel rig out (Ok turn.Spent) fuel' e mid) where
      abbrev ls : List (List ℕ)
      ls = t.turning.lines

      short : Short (FitSteps is_planned setup) setup fuel rig ls fuel' e
      short = t.turning.turns

      short_came : Came short.last ls fuel'
      short_came = came short.count ls fuel' short.last short.steps

      short_planned : is_planned short.last ≡ true
      short_planned = ap (λ (o : Option ℕ). is_some o) short.no_fit.rest.planned ∙ t.ends

      abbrev short_run : Run
      short_run = in_wait setup seed all budget left run.verdicts short.last (run.lines ++ ls) short_came.0

      short_is : IsRun setup seed all budget short_run
      short_is = waits_short setup seed all budget left run.verdicts short.last (run.lines ++ ls) short_came.0 fuel' short_planned short_came.2 short_came.1 short.no_fit.short

      short_lines : written setup budget short_run ≡ (run.lines ++ ls) ++ budget_line budget ∷ []
      short_lines = let h = short_is.stopped in rw h refl

      pub wait_spent : (content : Content) (s : Status) (out' : O) → StandsFor setup content e → EndsTo sink (budget_line budget ∷ []) status.Budget s mid out' → RunsTo sink setup seed all budget s e content first out'
      wait_spent content s out' k h =
          run_ends sink setup seed all budget short_run short_is (run.lines ++ ls) (budget_line budget ∷ []) short_lines first mid
          (takes_then sink.takes sink.breaks first run.lines out ls mid waits.stands.taken t.turning.puts)
          e content short.no_fit.rest short.no_fit.tasks (stands_rest setup content short.last e short.no_fit.rest k) status.Budget s out' refl h

    -- its start has fired
    module _ (fuel' : ℕ) (e : Rig) (out' : O) (t : WaitTurns sink setup fuel rig out (Ok turn.Due) fuel' e out') where
      abbrev due_lines : List (List ℕ)
      due_lines = t.turning.lines

      due_turns : TurnsTo (FitSteps is_planned setup) setup fuel rig due_lines (Ok turn.Due) fuel' e
      due_turns = t.turning.turns

      due_came : Came e due_lines fuel'
      due_came = let m : Moves (FitSteps is_planned setup) fuel rig due_lines fuel' e = due_turns.0 in came (suc m.count) due_lines fuel' e m.steps

      abbrev due_run : Run
      due_run = run_at (Begins left) e (run.lines ++ due_lines) run.verdicts due_came.0

      due_reached : Reached setup seed all budget due_run
      due_reached = reached_as setup seed all budget (at_rig e (run.lines ++ due_lines) due_came.0) due_run (begins_as setup seed all budget left run.verdicts e (run.lines ++ due_lines) due_came.0 due_turns.2) due_came.2

      due_pending : (cs : List Case) → left ≡ cs → p.at < length cases → Pending setup seed all budget left due_run
      due_pending [] e0 w = let n : length cases - p.at ≡ 0 = sym (count_from cases p.at) ∙ ap length e0 in absurd (omega arith)
      due_pending (c ∷ cs) e0 w =
          let ran : c.skip ≡ false = first_runs c cs (ap unskipped (sym e0) ∙ waits.stands.unskipped_is ∙ e0) in
          subst (λ (xs : List Case). Pending setup seed all budget xs (run_at (Begins xs) e (run.lines ++ due_lines) run.verdicts due_came.0)) (sym e0)
          (pending_due setup seed all budget c cs e (run.lines ++ due_lines) run.verdicts due_came.0 ran (let k : due_came.0 + fuel' ≡ budget = due_came.1 in omega arith)
          (subst (λ (xs : List Case). Reached setup seed all budget (run_at (Begins xs) e (run.lines ++ due_lines) run.verdicts due_came.0)) e0 due_reached))

      pub wait_due : p.at < length cases → IsPending sink setup seed cases budget p fuel' e first out'
      wait_due w = record {
        run = due_run;
        pending = due_pending left refl w;
        stands = record {
          within = waits.stands.within;
          unskipped_is = waits.stands.unskipped_is;
          rig_is = refl;
          taken = takes_then sink.takes sink.breaks first run.lines out due_lines out' waits.stands.taken t.turning.puts;
          counted = waits.stands.counted;
          places = waits.stands.places;
          cost = due_came.1;
        };
      }

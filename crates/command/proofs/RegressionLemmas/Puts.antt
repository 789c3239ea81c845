-- From lines that are put at the end of a run to its status.
use Rattle.std.proofs.Common.{◌≡◌, ℕ, Bool, true, false, List, [], ◌∷◌, ◌++◌, Option, None, Some, Result, Ok, Err, refl, ap, sym, subst, ◌∙◌, append-nil, arith}
use Rattle.std.specs.Prelude.{◌+◌, ◌||◌, cond, IfOk}
use Rattle.std.specs.List.{count_by, list_any}
use Rattle.std.proofs.lemmas.List.Sums.{sum_by-cons}
use Rattle.port_io.specs.Ports.{TakesAll}
use Rattle.port_io.specs.Means.{SinkMeans, PutsTo}
use Rattle.port_io.specs.PutLaws.{takes_then}
use Rattle.port_io.proofs.PartLaws.{part_none, puts_to_then}
use Rattle.port_io.specs.declared.ports.NoMemory.{NoMemory}
use Rattle.port_io.specs.declared.ports.SinkFault.{SinkFault}
use Rattle.port_io.specs.declared.ports.SinkFault.TheVariants.{Failed, OutOfMemory}
use Rattle.gpi.specs.Content.{Content}
use Rattle.test_meaning.specs.Body.BodyTrees.{Case}
use Rattle.run_state.specs.Lines.Tallies.{tally_of}
use Rattle.run_state.specs.declared.lines.tally.Tally.{Tally}
use Rattle.rig_model.specs.Run.Rig.{Rig, Setup}
use Rattle.rig_model.specs.Run.Run.{Run, IsRun, IsStart, is_over, written, planned, begun}
use Rattle.rig_model.specs.Run.Verdict.{is_fail, report_of}
use Rattle.rig_model.specs.Run.Line.{test_line}
use Rattle.rig_model.specs.declared.run.outcome.Verdict.{Verdict}
use Rattle.rig_model.specs.Parts.Fits.{StandsFor}
use Rattle.rig_model.specs.Parts.Steps.{SameRest, SameTasks}
use Rattle.command.specs.Regression.Reached.{Reached}
use Rattle.command.specs.Regression.Runs.{EndsTo, PutsStart, RunsTo, Whole, status_of, stopped_status, verdict_status}
use Rattle.command.specs.Regression.Status.{put_status}
use Rattle.command.specs.declared.regression.status.Status.{Status}
use Rattle.command.specs.declared.regression.status.Status.TheVariants as status
use Rattle.command.proofs.RegressionLemmas.RunLaws.{reached_start}

module _ {O : Type 0} (sink : SinkMeans O) where
  module _ (setup : Setup) (seed : ℕ) (all : List Case) (budget : ℕ) where
    -- the status of a put that failed says no more than how far the lines were put
    pub start_runs : (own : Status) (fault : SinkFault) (e : Rig) (content : Content) (out out' : O) → PutsStart sink setup seed all budget fault out out'
        → RunsTo sink setup seed all budget (put_status own (Some fault)) e content out out'
    start_runs own Failed e content out out' p = p
    start_runs own OutOfMemory e content out out' p = p

    -- lines that were taken, and some of which not all were
    pub start_then : (base lines : List (List ℕ)) (fault : SinkFault) (out mid out' : O) → IsStart setup seed all budget (base ++ lines) → TakesAll sink.takes out base mid
        → PutsTo sink mid lines (Some fault) out' → PutsStart sink setup seed all budget fault out out'
    start_then base lines fault out mid out' s t p = record { lines = base ++ lines; starts = s; puts = puts_to_then sink out base mid lines (Some fault) out' t p }

    -- memory was short before a further line was put
    pub start_none_more : (c : Run) (out out' : O) → Reached setup seed all budget c → TakesAll sink.takes out c.lines out' → PutsStart sink setup seed all budget OutOfMemory out out'
    start_none_more c out out' r t =
        start_then c.lines [] OutOfMemory out out' out' (reached_start setup seed all budget c (c.lines ++ []) [] r (sym (append-nil (c.lines ++ []) ∙ append-nil c.lines))) t
        (part_none sink.takes sink.told out' [])

    module _ (run : Run) (is : IsRun setup seed all budget run) (base lines : List (List ℕ)) (lines_are : written setup budget run ≡ base ++ lines)
        (out mid : O) (taken : TakesAll sink.takes out base mid) where
      run_starts : IsStart setup seed all budget (base ++ lines)
      run_starts = record {
        count = is.count;
        more = [];
        reached = ap (written setup budget) (sym is.reached) ∙ lines_are ∙ sym (append-nil (base ++ lines));
      }

      module _ (e : Rig) (content : Content) (rest : SameRest run.rig e) (tasks : SameTasks run.rig e) (stands : StandsFor setup content run.rig) where
        whole : (out' : O) → TakesAll sink.takes mid lines out' → Whole sink setup seed all budget (status_of run) e content out out'
        whole out' p = record {
          run = run;
          is_run = is;
          status_is = refl;
          puts = subst (λ (ls : List (List ℕ)). TakesAll sink.takes out ls out') (sym lines_are) (takes_then sink.takes sink.breaks out base mid lines out' taken p);
          rest = rest;
          tasks = tasks;
          stands = stands;
        }

        by_status : (over failed : Bool) (out' : O) → Whole sink setup seed all budget (stopped_status over failed) e content out out'
            → RunsTo sink setup seed all budget (stopped_status over failed) e content out out'
        by_status true true out' w = w
        by_status true false out' w = w
        by_status false failed out' w = w

        by_fault : (fault : Option SinkFault) (out' : O) → PutsTo sink mid lines fault out' → RunsTo sink setup seed all budget (put_status (status_of run) fault) e content out out'
        by_fault None out' p = by_status (is_over run.place) (list_any is_fail run.verdicts) out' (whole out' p)
        by_fault (Some fault) out' p = start_runs (status_of run) fault e content out out' (start_then base lines fault out mid out' run_starts taken p)

        -- the last lines of a run were put
        pub run_ends : (own s : Status) (out' : O) → own ≡ status_of run → EndsTo sink lines own s mid out' → RunsTo sink setup seed all budget s e content out out'
        run_ends own s out' o h =
            subst (λ (x : Status). RunsTo sink setup seed all budget x e content out out') (sym (h.status_is ∙ ap (λ (x : Status). put_status x h.fault) o))
            (by_fault h.fault out' h.puts)

-- a line that was made is this one
pub made_line : {T : Type 0} (items : T → List ℕ) (made : Result T NoMemory) (own : T) (line : List ℕ) → made ≡ Ok own → IfOk made (λ (x : T). items x ≡ line) → items own ≡ line
made_line items (Ok x) own line e h = let same : x ≡ own = cc in ap items (sym same) ∙ h
made_line items (Err x) own line e h = cc

-- ---- which status a tally gives

fail_count : (v : Verdict) (vs : List Verdict) → count_by is_fail (v ∷ vs) ≡ cond (is_fail v) 1 0 + count_by is_fail vs
fail_count v vs = sum_by-cons (λ (x : Verdict). cond (is_fail x) 1 0) v vs

none_failed : (vs : List Verdict) → count_by is_fail vs ≡ 0 → list_any is_fail vs ≡ false
none_failed [] h = refl
none_failed (v ∷ vs) h = by_first (is_fail v) refl (λ k. none_failed vs k)
  where
    by_first : (b : Bool) → is_fail v ≡ b → (count_by is_fail vs ≡ 0 → list_any is_fail vs ≡ false) → list_any is_fail (v ∷ vs) ≡ false
    by_first true e more =
        let k : count_by is_fail (v ∷ vs) ≡ 1 + count_by is_fail vs = fail_count v vs ∙ ap (λ (b : Bool). cond b 1 0 + count_by is_fail vs) e in absurd (omega (arith, h, k))
    by_first false e more =
        let k : count_by is_fail (v ∷ vs) ≡ 0 + count_by is_fail vs = fail_count v vs ∙ ap (λ (b : Bool). cond b 1 0 + count_by is_fail vs) e in
        ap (λ (b : Bool). b || list_any is_fail vs) e ∙ more (omega (arith, h, k))

some_failed : (vs : List Verdict) → (count_by is_fail vs ≡ 0 → ⊥) → list_any is_fail vs ≡ true
some_failed [] h = absurd (h refl)
some_failed (v ∷ vs) h = by_first (is_fail v) refl (λ k. some_failed vs k)
  where
    by_first : (b : Bool) → is_fail v ≡ b → ((count_by is_fail vs ≡ 0 → ⊥) → list_any is_fail vs ≡ true) → list_any is_fail (v ∷ vs) ≡ true
    by_first true e more = ap (λ (b : Bool). b || list_any is_fail vs) e
    by_first false e more =
        let k : count_by is_fail (v ∷ vs) ≡ 0 + count_by is_fail vs = fail_count v vs ∙ ap (λ (b : Bool). cond b 1 0 + count_by is_fail vs) e in
        ap (λ (b : Bool). b || list_any is_fail vs) e ∙ more (λ z. h (omega (arith, k, z)))

-- no test failed
pub passed_status : (t : Tally) (vs : List Verdict) → t.failed ≡ 0 → t ≡ tally_of vs → status.Passed ≡ verdict_status (list_any is_fail vs)
passed_status t vs z e = sym (ap verdict_status (none_failed vs (sym (ap (λ (x : Tally). x.failed) e) ∙ z)))

-- one did
pub failed_status : (t : Tally) (vs : List Verdict) → (t.failed ≡ 0 → ⊥) → t ≡ tally_of vs → status.Failed ≡ verdict_status (list_any is_fail vs)
failed_status t vs n e = sym (ap verdict_status (some_failed vs (λ z. n (ap (λ (x : Tally). x.failed) e ∙ z))))

-- ---- lines of what follows

pub planned_lines : (cases : List Case) (c : Run) → (more : List (List ℕ)) × ((planned cases c).lines ≡ c.lines ++ more)
planned_lines [] c = (report_of c.verdicts c.rig.sim.time ∷ [], refl)
planned_lines (case ∷ cases) c = ([], sym (append-nil c.lines))

pub begun_lines : (setup : Setup) (cases : List Case) (c : Run) → (more : List (List ℕ)) × ((begun setup cases c).lines ≡ c.lines ++ more)
begun_lines setup [] c = (report_of c.verdicts c.rig.sim.time ∷ [], refl)
begun_lines setup (case ∷ cases) c = (test_line c.rig.sim.time case.name ∷ [], refl)

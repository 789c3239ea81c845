-- A means of proof: how far a run over tests has come between two of them, and what leads on from there. It says nothing that a reader must trust.
use Rattle.std.specs.Prelude.{◌≡◌, ℕ, ◌+◌, ◌≤◌, Bool, true, false, List, [], ◌∷◌, ◌++◌, length, map, drop, Option, Some, Result, Ok, Err, IfOk}
use Rattle.std.specs.Result.{result_err}
use Rattle.port_io.specs.Ports.{TakesAll}
use Rattle.port_io.specs.Means.{SinkMeans, PutsTo}
use Rattle.port_io.specs.declared.ports.NoMemory.{NoMemory}
use Rattle.port_io.specs.declared.ports.SinkFault.{SinkFault}
use Rattle.port_io.specs.declared.ports.SinkFault.TheVariants.{OutOfMemory}
use Rattle.gpi.specs.Content.{Content}
use Rattle.test_meaning.specs.Body.BodyTrees.{Case}
use Rattle.test_meaning.specs.Body.Views.{view_case}
use Rattle.test_meaning.specs.declared.body.file.TestCase.{TestCase}
use Rattle.run_state.specs.Lines.Tallies.{tally_of}
use Rattle.rig_model.specs.Run.Line.{skip_line, test_line, verdict_line}
use Rattle.rig_model.specs.Run.Rig.{Rig, Setup}
use Rattle.rig_model.specs.Run.Case.{emptied, test_begun}
use Rattle.rig_model.specs.Run.Run.{Run, Waits, planned, skipped, unskipped}
use Rattle.rig_model.specs.Run.Verdict.{verdict_of}
use Rattle.rig_model.specs.declared.run.outcome.Verdict.{Verdict}
use Rattle.rig_model.specs.declared.run.outcome.Verdict.TheVariants.{Skip}
use Rattle.rig_model.specs.Parts.Runs.{is_planned}
use Rattle.rig_model.specs.Parts.Steps.{FitSteps, anywhere, Short, Begins}
use Rattle.scheduler.specs.Turns.{Turning, turn_fault}
use Rattle.scheduler.specs.declared.turned.Turn.{Turn}
use Rattle.scheduler.specs.declared.turned.Turn.TheVariants as turn
use Rattle.command.specs.Regression.Reached.{Reached, Pending}
use Rattle.command.specs.Regression.Runs.{PutsStart, RunsTo}
use Rattle.command.specs.declared.regression.progress.Progress.{Progress}
use Rattle.command.specs.declared.regression.progress.Stage.{Stage}
use Rattle.command.specs.declared.regression.progress.Stage.TheVariants.{Goes, Stops}
use Rattle.command.specs.declared.regression.status.Status.{Status}
use Rattle.command.specs.declared.regression.status.Status.TheVariants as status

-- the tests of a file, as the definitions have them
abbrev pub cases_of : List TestCase → List Case
cases_of cases = map view_case cases

-- those from a place on
abbrev pub cases_from : List TestCase → ℕ → List Case
cases_from cases at = cases_of (drop at cases)

-- ---- places and verdicts

-- The verdicts that are counted are as many as there are tests before the place.
pub record HasPlace (p : Progress) : Type 0 where
  pub verdicts : List Verdict
  pub counted : p.tally ≡ tally_of verdicts
  pub places : length verdicts ≡ p.at

-- One test more, with this verdict.
pub record Counts (p : Progress) (verdict : Verdict) (q : Progress) : Type 0 where
  pub places : q.at ≡ p.at + 1
  pub counted : (verdicts : List Verdict) → p.tally ≡ tally_of verdicts → q.tally ≡ tally_of (verdicts ++ verdict ∷ [])

-- the first of these tests is skipped, if there is one
abbrev pub starts_skipped : List Case → Bool
starts_skipped [] = false
starts_skipped (case ∷ cases) = case.skip

-- verdicts of skipped tests
abbrev pub skips_of : List Case → List Verdict
skips_of cases = map (λ (case : Case). Skip) cases

abbrev pub skip_lines : ℕ → List Case → List (List ℕ)
skip_lines time cases = map (λ (case : Case). skip_line time case.name) cases

-- The tests between the two places are skipped, and are counted. The one behind them isn't skipped, if there is one.
pub record SkipsOver (cases : List TestCase) (p q : Progress) : Type 0 where
  pub within : q.at ≤ length cases
  pub left : cases_from cases q.at ≡ unskipped (cases_from cases p.at)
  pub places : q.at ≡ p.at + length (skipped (cases_from cases p.at))
  pub counted : (verdicts : List Verdict) → p.tally ≡ tally_of verdicts → q.tally ≡ tally_of (verdicts ++ skips_of (skipped (cases_from cases p.at)))

-- The tests that are skipped from a place on are told in order, one put each.
pub record Skips {O : Type 0} (sink : SinkMeans O) (time : ℕ) (cases : List TestCase) (p : Progress) (r : Result Progress SinkFault) (out out' : O) : Type 0 where
  pub puts : PutsTo sink out (skip_lines time (skipped (cases_from cases p.at))) (result_err r) out'
  pub over : IfOk r (SkipsOver cases p)

-- The test at the place p is judged, and those behind it are skipped up to q.
pub record Judged (cases : List TestCase) (p : Progress) (verdict : Verdict) (q : Progress) : Type 0 where
  pub behind : Progress
  pub counts : Counts p verdict behind
  pub over : SkipsOver cases behind q

-- The verdict on this test is put, which fails for that reason, if there is one; and then the tests that are skipped behind it are told.
pub record Judges {O : Type 0} (sink : SinkMeans O) (time : ℕ) (cases : List TestCase) (p : Progress) (case : Case) (reason : Option (List ℕ))
    (r : Result Progress SinkFault) (out out' : O) : Type 0 where
  pub puts : PutsTo sink out (verdict_line time case.name reason ∷ skip_lines time (skipped (cases_from cases (p.at + 1)))) (result_err r) out'
  pub judged : IfOk r (Judged cases p (verdict_of reason))

-- ---- between two tests

-- A run of which this is known: the place of its next test that isn't skipped, what was counted and taken so far, its configuration and what is left of the budget.
pub record Stands {O : Type 0} (sink : SinkMeans O) (cases : List TestCase) (budget : ℕ) (p : Progress) (fuel : ℕ) (rig : Rig) (first out : O) (run : Run) : Type 0 where
  pub within : p.at ≤ length cases
  pub unskipped_is : unskipped (cases_from cases p.at) ≡ cases_from cases p.at
  pub rig_is : run.rig ≡ rig
  pub taken : TakesAll sink.takes first run.lines out
  pub counted : p.tally ≡ tally_of run.verdicts
  pub places : length run.verdicts ≡ p.at
  pub cost : run.cost + fuel ≡ budget

-- The next step of the run begins the test at this place, or closes the run behind the last one.
pub record IsPending {O : Type 0} (sink : SinkMeans O) (setup : Setup) (seed : ℕ) (cases : List TestCase) (budget : ℕ) (p : Progress) (fuel : ℕ)
    (rig : Rig) (first out : O) : Type 0 where
  pub run : Run
  pub pending : Pending setup seed (cases_of cases) budget (cases_from cases p.at) run
  pub stands : Stands sink cases budget p fuel rig first out run

-- A run has come so far, whatever its seed is and wherever its lines began.
pub record HasCome {O : Type 0} (sink : SinkMeans O) (setup : Setup) (cases : List TestCase) (budget : ℕ) (p : Progress) (fuel : ℕ) (rig : Rig) (out : O) : Type 0 where
  pub seed : ℕ
  pub first : O
  pub pending : IsPending sink setup seed cases budget p fuel rig first out

-- A test has ended and has its verdict, and the tests that are skipped behind it have theirs: the next one is to be planned, or the run closes.
pub record IsEnded {O : Type 0} (sink : SinkMeans O) (setup : Setup) (seed : ℕ) (cases : List TestCase) (budget : ℕ) (p : Progress) (fuel : ℕ)
    (rig : Rig) (first out : O) : Type 0 where
  pub run : Run
  pub last : cases_from cases p.at ≡ [] → Pending setup seed (cases_of cases) budget [] run
  pub next : Reached setup seed (cases_of cases) budget (planned (cases_from cases p.at) run)
  pub stands : Stands sink cases budget p fuel rig first out run

-- The start of the next test is planned, and hasn't fired yet.
pub record IsWaiting {O : Type 0} (sink : SinkMeans O) (setup : Setup) (seed : ℕ) (cases : List TestCase) (budget : ℕ) (p : Progress) (fuel : ℕ)
    (rig : Rig) (first out : O) : Type 0 where
  pub run : Run
  pub reached : Reached setup seed (cases_of cases) budget (record run { place = Waits (cases_from cases p.at) })
  pub stands : Stands sink cases budget p fuel rig first out run

-- Where a test ended it does so, and where a put failed the run stops.
abbrev pub AfterEnd : {O : Type 0} → SinkMeans O → Setup → ℕ → List TestCase → ℕ → Result Progress SinkFault → ℕ → Rig → O → O → Type 0
AfterEnd sink setup seed cases budget (Ok p) fuel rig first out = IsEnded sink setup seed cases budget p fuel rig first out
AfterEnd sink setup seed cases budget (Err fault) fuel rig first out = PutsStart sink setup seed (cases_of cases) budget fault first out

-- the next test may begin from the least place on, or the run stops
abbrev pub StagesTo : {O : Type 0} → SinkMeans O → Setup → ℕ → List TestCase → ℕ → ℕ → Result Stage NoMemory → ℕ → Rig → Content → O → O → Type 0
StagesTo sink setup seed cases budget least (Ok (Goes p)) fuel rig content first out = (least ≤ p.at) × IsPending sink setup seed cases budget p fuel rig first out
StagesTo sink setup seed cases budget least (Ok (Stops s)) fuel rig content first out = RunsTo sink setup seed (cases_of cases) budget s rig content first out
StagesTo sink setup seed cases budget least (Err no_memory) fuel rig content first out = PutsStart sink setup seed (cases_of cases) budget OutOfMemory first out

-- what a run leaves where another test may begin is what it leaves where all of them passed
abbrev pub stage_status : Result Stage NoMemory → Status
stage_status (Ok (Goes p)) = status.Passed
stage_status (Ok (Stops s)) = s
stage_status (Err no_memory) = status.NoMemory

-- ---- a test

-- From the begin of a test steps lead to its end, to where the budget is reached, or as far as their lines were put.
abbrev pub StepsTo : Setup → ℕ → Rig → List (List ℕ) → Result Turn NoMemory → ℕ → Rig → Type 0
StepsTo setup fuel c lines (Ok turn.Went) fuel' e = ⊥
StepsTo setup fuel c lines (Ok turn.Due) fuel' e = ⊥
StepsTo setup fuel c lines (Ok (turn.Over outcome)) fuel' e = (count : ℕ) × FitSteps anywhere setup count fuel c lines fuel' (record e { outcome = Some outcome })
StepsTo setup fuel c lines (Ok turn.Spent) fuel' e = Short (FitSteps anywhere setup) setup fuel c lines fuel' e
StepsTo setup fuel c lines (Ok turn.WriteFault) fuel' e = Begins (FitSteps anywhere setup) fuel c lines
StepsTo setup fuel c lines (Err no_memory) fuel' e = Begins (FitSteps anywhere setup) fuel c lines

-- From c a test begins and runs, and its lines are put.
pub record TestsTo {O : Type 0} (sink : SinkMeans O) (setup : Setup) (case : Case) (fuel : ℕ) (c : Rig) (out : O) (r : Result Turn NoMemory) (fuel' : ℕ) (e : Rig) (out' : O) : Type 0 where
  pub lines : List (List ℕ)
  pub steps : StepsTo setup fuel (test_begun setup case c) lines r fuel' e
  pub puts : PutsTo sink out (test_line c.sim.time case.name ∷ lines) (turn_fault r) out'

-- ---- the wait for the next test

-- nothing of a test is left
abbrev pub IsEmpty : Rig → Type 0
IsEmpty c = c ≡ emptied c.sim c.random c.counts

-- How the wait for the next test ends: its start has fired and nothing is left, or it is planned still.
abbrev pub WaitsTo : Result Turn NoMemory → Rig → Type 0
WaitsTo (Ok turn.Went) e = ⊥
WaitsTo (Ok turn.Due) e = IsEmpty e
WaitsTo (Ok (turn.Over outcome)) e = ⊥
WaitsTo (Ok turn.Spent) e = is_planned e ≡ true
WaitsTo (Ok turn.WriteFault) e = Unit {0}
WaitsTo (Err no_memory) e = Unit {0}

-- From c the next test is waited for, in steps each of which begins while its start is planned.
pub record WaitTurns {O : Type 0} (sink : SinkMeans O) (setup : Setup) (fuel : ℕ) (c : Rig) (out : O) (r : Result Turn NoMemory) (fuel' : ℕ) (e : Rig) (out' : O) : Type 0 where
  pub turning : Turning sink (FitSteps is_planned setup) setup fuel c out r fuel' e out'
  pub ends : WaitsTo r e

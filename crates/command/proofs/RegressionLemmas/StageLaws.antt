-- What the answers of a stage say, known from how its parts ended.
use Rattle.std.proofs.Common.{◌≡◌, ℕ, ◌≤◌, List, Result, Ok, Err, IsErr, subst, arith}
use Rattle.port_io.specs.Means.{SinkMeans}
use Rattle.port_io.specs.declared.ports.NoMemory.{NoMemory}
use Rattle.port_io.specs.declared.ports.SinkFault.TheVariants.{OutOfMemory}
use Rattle.gpi.specs.Content.{Content}
use Rattle.test_meaning.specs.Body.BodyTrees.{Case}
use Rattle.test_meaning.specs.declared.body.file.TestCase.{TestCase}
use Rattle.rig_model.specs.Run.Rig.{Rig, Setup}
use Rattle.scheduler.specs.declared.turned.Turn.{Turn}
use Rattle.command.specs.Regression.Runs.{PutsStart, RunsTo, status_in}
use Rattle.command.specs.Regression.Stages.{IsPending, StagesTo, TestsTo, WaitTurns, cases_of}
use Rattle.command.specs.declared.regression.progress.Progress.{Progress}
use Rattle.command.specs.declared.regression.progress.Stage.{Stage}
use Rattle.command.specs.declared.regression.progress.Stage.TheVariants.{Goes, Stops}
use Rattle.command.specs.declared.regression.status.Status.{Status}

module _ {O : Type 0} (sink : SinkMeans O) (setup : Setup) where
  -- an answer that is known
  pub waits_as : (fuel : ℕ) (c : Rig) (out : O) (t t' : Turn) (fuel' : ℕ) (e : Rig) (out' : O) → t ≡ t' → WaitTurns sink setup fuel c out (Ok t) fuel' e out'
      → WaitTurns sink setup fuel c out (Ok t') fuel' e out'
  waits_as fuel c out t t' fuel' e out' h w = subst (λ (x : Turn). WaitTurns sink setup fuel c out (Ok x) fuel' e out') h w

  pub tests_as : (case : Case) (fuel : ℕ) (c : Rig) (out : O) (t t' : Turn) (fuel' : ℕ) (e : Rig) (out' : O) → t ≡ t' → TestsTo sink setup case fuel c out (Ok t) fuel' e out'
      → TestsTo sink setup case fuel c out (Ok t') fuel' e out'
  tests_as case fuel c out t t' fuel' e out' h w = subst (λ (x : Turn). TestsTo sink setup case fuel c out (Ok x) fuel' e out') h w

  module _ (seed : ℕ) (cases : List TestCase) (budget : ℕ) where
    -- memory was short
    pub stages_err : (least : ℕ) (r : Result Stage NoMemory) (fuel : ℕ) (rig : Rig) (content : Content) (first out : O) → IsErr r
        → PutsStart sink setup seed (cases_of cases) budget OutOfMemory first out → StagesTo sink setup seed cases budget least r fuel rig content first out
    stages_err least (Ok s) fuel rig content first out h p = cc
    stages_err least (Err x) fuel rig content first out h p = p

    pub runs_err : (r : Result Status NoMemory) (rig : Rig) (content : Content) (first out : O) → IsErr r
        → PutsStart sink setup seed (cases_of cases) budget OutOfMemory first out → RunsTo sink setup seed (cases_of cases) budget (status_in r) rig content first out
    runs_err (Ok s) rig content first out h p = cc
    runs_err (Err x) rig content first out h p = p

    -- from an earlier place on
    pub stages_from : (least more : ℕ) (r : Result Stage NoMemory) (fuel : ℕ) (rig : Rig) (content : Content) (first out : O) → least ≤ more
        → StagesTo sink setup seed cases budget more r fuel rig content first out → StagesTo sink setup seed cases budget least r fuel rig content first out
    stages_from least more (Ok (Goes p)) fuel rig content first out h s = let k : more ≤ p.at = s.0 in (omega arith, s.1)
    stages_from least more (Ok (Stops x)) fuel rig content first out h s = s
    stages_from least more (Err x) fuel rig content first out h s = s

  -- ---- a stage, under the same setup

  module _ (setup' : Setup) (same : setup' ≡ setup) (seed : ℕ) (cases : List TestCase) (budget : ℕ) (p : Progress) (fuel : ℕ) (now : Rig) (first out : O)
      (least : ℕ) (fuel' : ℕ) (after : Rig) (content : Content) (out' : O) where
    abbrev Leads : Setup → Result Stage NoMemory → Type 0
    Leads x r = IsPending sink x seed cases budget p fuel now first out → StagesTo sink x seed cases budget least r fuel' after content first out'

    -- the next test may begin
    pub stage_goes : (s : Stage) (q : Progress) → s ≡ Goes q
        → (IsPending sink setup' seed cases budget p fuel now first out → StagesTo sink setup' seed cases budget least (Ok s) fuel' after content first out')
        → IsPending sink setup seed cases budget p fuel now first out → (least ≤ q.at) × IsPending sink setup seed cases budget q fuel' after first out'
    stage_goes s q e stage pend = subst (λ (x : Setup). Leads x (Ok (Goes q))) same (subst (λ (x : Stage). Leads setup' (Ok x)) e stage) pend

    -- the run stops
    pub stage_stops : (s : Stage) (status : Status) → s ≡ Stops status
        → (IsPending sink setup' seed cases budget p fuel now first out → StagesTo sink setup' seed cases budget least (Ok s) fuel' after content first out')
        → IsPending sink setup seed cases budget p fuel now first out → RunsTo sink setup seed (cases_of cases) budget status after content first out'
    stage_stops s status e stage pend = subst (λ (x : Setup). Leads x (Ok (Stops status))) same (subst (λ (x : Stage). Leads setup' (Ok x)) e stage) pend

    -- memory was short
    pub stage_cut : (x : NoMemory) → (IsPending sink setup' seed cases budget p fuel now first out → StagesTo sink setup' seed cases budget least (Err x) fuel' after content first out')
        → IsPending sink setup seed cases budget p fuel now first out → PutsStart sink setup seed (cases_of cases) budget OutOfMemory first out'
    stage_cut x stage pend = subst (λ (y : Setup). Leads y (Err x)) same stage pend

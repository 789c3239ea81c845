-- What the status of a run over the tests of a file says of its lines, of where it stopped and of the simulator.
use Rattle.std.specs.Prelude.{◌≡◌, ℕ, Bool, true, false, List, Option, None, Some, Result, Ok, Err}
use Rattle.std.specs.List.{list_any}
use Rattle.port_io.specs.Means.{SinkMeans, PutsTo}
use Rattle.port_io.specs.declared.ports.NoMemory.{NoMemory}
use Rattle.port_io.specs.declared.ports.SinkFault.{SinkFault}
use Rattle.port_io.specs.declared.ports.SinkFault.TheVariants.{Failed, OutOfMemory}
use Rattle.gpi.specs.Content.{Content}
use Rattle.test_meaning.specs.Body.BodyTrees.{Case}
use Rattle.rig_model.specs.Run.Rig.{Rig, Setup}
use Rattle.rig_model.specs.Run.Run.{Run, IsRun, IsStart, is_over, written}
use Rattle.rig_model.specs.Run.Verdict.{is_fail}
use Rattle.rig_model.specs.Parts.Fits.{StandsFor}
use Rattle.rig_model.specs.Parts.Steps.{SameRest, SameTasks}
use Rattle.command.specs.Regression.Status.{put_status}
use Rattle.command.specs.declared.regression.status.Status.{Status}
use Rattle.command.specs.declared.regression.status.Status.TheVariants as status

abbrev pub verdict_status : Bool → Status
verdict_status true = status.Failed
verdict_status false = status.Passed

abbrev pub stopped_status : Bool → Bool → Status
stopped_status true has_failed = verdict_status has_failed
stopped_status false has_failed = status.Budget

-- of a run that stopped: the budget was reached, or else whether a test failed
abbrev pub status_of : Run → Status
status_of c = stopped_status (is_over c.place) (list_any is_fail c.verdicts)

-- All lines of the run are taken. The engine stands where the run stops, and what the simulator holds stands for that place: its state, its registered
-- keys and its counts.
pub record Whole {O : Type 0} (sink : SinkMeans O) (setup : Setup) (seed : ℕ) (cases : List Case) (budget : ℕ) (s : Status)
    (e : Rig) (content : Content) (out out' : O) : Type 0 where
  pub run : Run
  pub is_run : IsRun setup seed cases budget run
  pub status_is : s ≡ status_of run
  pub puts : PutsTo sink out (written setup budget run) None out'
  pub rest : SameRest run.rig e
  pub tasks : SameTasks run.rig e
  pub stands : StandsFor setup content run.rig

-- The first lines of the run are put in order, up to a put that fails so.
pub record PutsStart {O : Type 0} (sink : SinkMeans O) (setup : Setup) (seed : ℕ) (cases : List Case) (budget : ℕ)
    (fault : SinkFault) (out out' : O) : Type 0 where
  pub lines : List (List ℕ)
  pub starts : IsStart setup seed cases budget lines
  pub puts : PutsTo sink out lines (Some fault) out'

abbrev pub RunsTo : {O : Type 0} → SinkMeans O → Setup → ℕ → List Case → ℕ → Status → Rig → Content → O → O → Type 0
RunsTo sink setup seed cases budget status.Passed e content out out' = Whole sink setup seed cases budget status.Passed e content out out'
RunsTo sink setup seed cases budget status.Failed e content out out' = Whole sink setup seed cases budget status.Failed e content out out'
RunsTo sink setup seed cases budget status.Budget e content out out' = Whole sink setup seed cases budget status.Budget e content out out'
RunsTo sink setup seed cases budget status.WriteFault e content out out' = PutsStart sink setup seed cases budget Failed out out'
RunsTo sink setup seed cases budget status.NoMemory e content out out' = PutsStart sink setup seed cases budget OutOfMemory out out'
RunsTo sink setup seed cases budget status.Usage e content out out' = ⊥
RunsTo sink setup seed cases budget status.DesignRefused e content out out' = ⊥
RunsTo sink setup seed cases budget status.TestsRefused e content out out' = ⊥
RunsTo sink setup seed cases budget status.ReadFault e content out out' = ⊥

-- a status, or want of memory
abbrev pub status_in : Result Status NoMemory → Status
status_in (Ok s) = s
status_in (Err no_memory) = status.NoMemory

-- Lines were put in order and gave this status: the own one where all were taken.
pub record EndsTo {O : Type 0} (sink : SinkMeans O) (lines : List (List ℕ)) (own : Status) (s : Status) (out out' : O) : Type 0 where
  pub fault : Option SinkFault
  pub puts : PutsTo sink out lines fault out'
  pub status_is : s ≡ put_status own fault

-- A means of proof: when an engine and a simulator fit, for the proofs of the runner's turns.
use Rattle.std.specs.Prelude.{◌≡◌, ℕ, List, Option, None, Result, OnOk}
use Rattle.gpi.specs.Content.{Content}
use Rattle.gpi.specs.Limits.{latest_time}
use Rattle.gpi.specs.declared.interface.Gpi.{Ghosts as GpiGhosts}
use Rattle.port_io.specs.Means.{SinkMeans}
use Rattle.port_io.specs.declared.ports.NoMemory.{NoMemory}
use Rattle.py_value.specs.declared.trigger.TaskNo.{TaskNo}
use Rattle.rig_model.specs.Run.Known.{IsKnown}
use Rattle.rig_model.specs.Run.Rig.{Rig, Setup}
use Rattle.run_state.specs.Queue.Fits.{Keeps}
use Rattle.scheduler.specs.Timely.{IsTimely}
use Rattle.run_view.specs.View.{IsOf}
use Rattle.scheduler.specs.TestFits as test
use Rattle.scheduler.specs.Parts.{Means}
use Rattle.scheduler.specs.Engine.{rig_of, setup_of}
use Rattle.scheduler.specs.Turns.{Turning, turn_fault}
use Rattle.scheduler.specs.declared.engine.Engine.{Engine}
use Rattle.scheduler.specs.declared.turned.Turn.{Turn}

-- An engine and a simulator that holds this stand together for a configuration of the engine's design, where this task has its turn: the registered keys
-- are the awaited ones; each task that has its turn, is ready or waits is live, and stands in one place alone; of the tasks that were started each one lives or has ended, and there
-- is a flow for exactly those that live and room in the ring for each of them; all values and numbers are known; and no time that is awaited is too late.
pub record FitsAt (turn : Option TaskNo) {M W F : Type 0} (m : Means M W F) (e : Engine M W F) (content : Content) : Type 0 where
  pub test : test.FitsAt turn e.teller.flat.now m e.test content
  pub names : IsOf e.teller.flat.now e.names content.state
  pub known : IsKnown (setup_of m e) (rig_of m e content)
  pub timely : IsTimely latest_time (rig_of m e content)

-- the two fit: so it is between turns
abbrev pub FitsKernel : {M W F : Type 0} → Means M W F → Engine M W F → Content → Type 0
FitsKernel m e content = FitsAt None m e content

-- What a turn and its parts keep, whatever they answer: what the tests share stays, the simulator holds a design, and the registered keys are exactly
-- the awaited ones.
pub record KeepsAll {M W F K : Type 0} (m : Means M W F) (gpi : GpiGhosts K) (before after : Engine M W F) (kernel : K) : Type 0 where
  pub setup : setup_of m after ≡ setup_of m before
  pub loaded : gpi.is_loaded kernel
  pub keys : Keeps m.waiting m.held after.test.queue (gpi.content kernel)

-- A turn of steps of this kind leads from one engine and simulator to the other, and its lines are put. The two fit again, unless a put failed or memory
-- was short.
pub record Turns {O M W F K : Type 0} (sink : SinkMeans O) (m : Means M W F) (gpi : GpiGhosts K)
    (kind : Setup → ℕ → ℕ → Rig → List (List ℕ) → ℕ → Rig → Type 0) (before : Engine M W F) (kernel : K) (fuel : ℕ) (out : O)
    (r : Result Turn NoMemory) (after : Engine M W F) (kernel' : K) (fuel' : ℕ) (out' : O) : Type 0 where
  pub turning : Turning sink (kind (setup_of m before)) (setup_of m before) fuel (rig_of m before (gpi.content kernel)) out r
      fuel' (rig_of m after (gpi.content kernel')) out'
  pub fits : turn_fault r ≡ None → FitsKernel m after (gpi.content kernel')
  pub keeps : KeepsAll m gpi before after kernel'

-- What a part of the begin of a test keeps: the two fit again, unless memory was short, and whether a test runs stays.
pub record Prepares {T E M W F K : Type 0} (m : Means M W F) (gpi : GpiGhosts K) (before : Engine M W F) (r : Result T E) (after : Engine M W F)
    (kernel' : K) : Type 0 where
  pub fits : OnOk r (FitsKernel m after (gpi.content kernel'))
  pub keeps : KeepsAll m gpi before after kernel'
  pub runs : after.runs_test ≡ before.runs_test

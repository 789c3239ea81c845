-- A means of proof: what a run over the tests of a file leaves of an engine and its simulator, for its proofs.
use Rattle.std.specs.Prelude.{◌≡◌, ◌≢◌, Bool, true, false, []}
use Rattle.gpi.specs.Content.{Content}
use Rattle.gpi.specs.declared.interface.Gpi.{Ghosts as GpiGhosts}
use Rattle.await_tree.specs.WaitList.Keys.{AreKeys}
use Rattle.rig_model.specs.Run.Case.{emptied}
use Rattle.scheduler.specs.Parts.{Means}
use Rattle.scheduler.specs.Engine.{rig_of, runs_test}
use Rattle.scheduler.specs.Fits.{FitsKernel, KeepsAll}
use Rattle.scheduler.specs.declared.engine.Engine.{Engine}
use Rattle.command.specs.declared.regression.status.Status.{Status}
use Rattle.command.specs.declared.regression.status.Status.TheVariants.{Passed, Failed, Usage, DesignRefused, TestsRefused, ReadFault, WriteFault, NoMemory, Budget}

-- the run came to its end, and says whether a test failed
abbrev pub has_verdict : Status → Bool
has_verdict Passed = true
has_verdict Failed = true
has_verdict Usage = false
has_verdict DesignRefused = false
has_verdict TestsRefused = false
has_verdict ReadFault = false
has_verdict WriteFault = false
has_verdict NoMemory = false
has_verdict Budget = false

-- Nothing of a test is left, no start is planned, and no key is registered.
pub record IsCleared {M W F : Type 0} (m : Means M W F) (e : Engine M W F) (content : Content) : Type 0 where
  pub empty : rig_of m e content ≡ emptied content.state e.test.random content.counts
  pub none_registered : AreKeys content.keys []

-- A run ends with this status and leaves the engine and its simulator so. Whatever the status is, what the tests share is as it was, the simulator holds a
-- design, and the registered keys are exactly the awaited ones: all that the end of a test asks for. No turn may follow. The two fit, unless a put failed
-- or memory was short; and where all tests have their verdicts, nothing of a test is left.
pub record Leaves {M W F K : Type 0} (m : Means M W F) (gpi : GpiGhosts K) (s : Status) (before after : Engine M W F) (kernel : K) : Type 0 where
  pub keeps : KeepsAll m gpi before after kernel
  pub idle : runs_test after ≡ false
  pub fits : s ≢ NoMemory → s ≢ WriteFault → FitsKernel m after (gpi.content kernel)
  pub cleared : has_verdict s ≡ true → IsCleared m after (gpi.content kernel)

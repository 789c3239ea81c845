-- What a run leaves of the simulator.
use Rattle.std.proofs.Common.{Bool, true, false, Option, None, Some, sym, subst, inl, inr}
use Rattle.std.specs.List.{list_any}
use Rattle.port_io.specs.Means.{SinkMeans}
use Rattle.port_io.specs.declared.ports.SinkFault.{SinkFault}
use Rattle.port_io.specs.declared.ports.SinkFault.TheVariants.{Failed, OutOfMemory}
use Rattle.gpi.specs.Content.{Content}
use Rattle.gpi.specs.declared.design.Flat.{Flat}
use Rattle.test_meaning.specs.Body.BodyTrees.{TestFile}
use Rattle.rig_model.specs.Run.Run.{is_over}
use Rattle.rig_model.specs.Run.Verdict.{is_fail}
use Rattle.command.specs.Regression.Runs.{stopped_status}
use Rattle.command.specs.Regression.Status.{put_status}
use Rattle.command.specs.declared.regression.status.Status.{Status}
use Rattle.command.specs.declared.regression.status.Status.TheVariants as status
use Rattle.command.specs.declared.options.RunOptions.{RunOptions}
use Rattle.command.specs.declared.options.Shown.{Shown}
use Rattle.command.specs.declared.options.Shown.TheVariants.{AllLines, LastLine, VcdText}
use Rattle.command.specs.Answer.{LeavesKernel, RunsFile, RunsShown, RunsText, setup_with}

module _ {K : Type 0} (is_loaded : K → Type 0) (before after : K) (loaded : is_loaded after) where
  -- after a run that stopped, and the put of its line
  put_leaves : (over has_failed : Bool) (fault : Option SinkFault) → LeavesKernel is_loaded (put_status (stopped_status over has_failed) fault) before after
  put_leaves over has_failed (Some Failed) = inl loaded
  put_leaves over has_failed (Some OutOfMemory) = tt
  put_leaves true true None = loaded
  put_leaves true false None = loaded
  put_leaves false has_failed None = loaded

  module _ {O : Type 0} (sink : SinkMeans O) (options : RunOptions) (flat : Flat) (file : TestFile) (content : Content) (out out' : O) where
    -- after the lines of a run
    file_leaves : (s : Status) → RunsFile sink options flat file s content out out' → LeavesKernel is_loaded s before after
    file_leaves status.Passed ran = loaded
    file_leaves status.Failed ran = loaded
    file_leaves status.Budget ran = loaded
    file_leaves status.WriteFault ran = inl loaded
    file_leaves status.NoMemory ran = tt
    file_leaves status.Usage ran = absurd ran.1
    file_leaves status.DesignRefused ran = absurd ran.1
    file_leaves status.TestsRefused ran = absurd ran.1
    file_leaves status.ReadFault ran = absurd ran.1

    -- after its VCD text
    text_leaves : (s : Status) → RunsText sink (setup_with options.trace flat file) options.seed file.cases options.budget s content out out'
        → LeavesKernel is_loaded s before after
    text_leaves status.Passed ran = loaded
    text_leaves status.Failed ran = loaded
    text_leaves status.Budget ran = loaded
    text_leaves status.WriteFault ran = inl loaded
    text_leaves status.NoMemory ran = tt
    text_leaves status.Usage ran = absurd ran
    text_leaves status.DesignRefused ran = absurd ran
    text_leaves status.TestsRefused ran = absurd ran
    text_leaves status.ReadFault ran = absurd ran

    pub shown_leaves : (shown : Shown) (s : Status) → RunsShown shown sink options flat file s content out out' → LeavesKernel is_loaded s before after
    shown_leaves AllLines s ran = file_leaves s ran
    shown_leaves LastLine s (inl (run, is_run, puts)) =
        subst (λ (x : Status). LeavesKernel is_loaded x before after) (sym puts.ends.status_is)
        (put_leaves (is_over run.place) (list_any is_fail run.verdicts) puts.ends.fault)
    shown_leaves LastLine s (inr q) = subst (λ (x : Status). LeavesKernel is_loaded x before after) (sym q.short) tt
    shown_leaves VcdText s ran = text_leaves s ran

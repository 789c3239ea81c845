-- What a run leaves, known from what the engine's calls keep.
use Rattle.std.proofs.Common.{◌≡◌, true, false, Option, None, Some, Result, Ok, Err, IsErr, refl, ap, subst, sym, ◌∙◌}
use Rattle.gpi.specs.Content.{Content}
use Rattle.gpi.specs.declared.interface.Gpi.{Ghosts as GpiGhosts}
use Rattle.port_io.specs.declared.ports.NoMemory.{NoMemory}
use Rattle.port_io.specs.declared.ports.SinkFault.{SinkFault}
use Rattle.port_io.specs.declared.ports.SinkFault.TheVariants as fault
use Rattle.scheduler.specs.Parts.{Means}
use Rattle.scheduler.specs.Engine.{rig_of, runs_test, setup_of}
use Rattle.scheduler.specs.Fits.{FitsKernel, KeepsAll}
use Rattle.scheduler.specs.declared.engine.Engine.{Engine}
use Rattle.command.specs.Regression.Leaves.{Leaves, IsCleared, has_verdict}
use Rattle.command.specs.Regression.Runs.{status_in}
use Rattle.command.specs.Regression.Stages.{IsEmpty, stage_status}
use Rattle.command.specs.Regression.Status.{put_status}
use Rattle.command.specs.declared.regression.progress.Stage.{Stage}
use Rattle.command.specs.declared.regression.status.Status.{Status}
use Rattle.command.specs.declared.regression.status.Status.TheVariants as status
use Rattle.command.proofs.RegressionLemmas.Stands.{none_registered}

no_verdict : (fault : Option SinkFault) → has_verdict (put_status status.Budget fault) ≡ false
no_verdict None = refl
no_verdict (Some fault.Failed) = refl
no_verdict (Some fault.OutOfMemory) = refl

-- at the budget there is no verdict, whatever became of its line
pub short_verdict : (s : Status) (fault : Option SinkFault) → s ≡ put_status status.Budget fault → has_verdict s ≡ false
short_verdict s fault is = ap has_verdict is ∙ no_verdict fault

module _ {M W F K : Type 0} (m : Means M W F) (gpi : GpiGhosts K) where
  -- what is kept from here on is kept from where the setup was the same
  pub keeps_on : (first before after : Engine M W F) (k : K) → setup_of m before ≡ setup_of m first → KeepsAll m gpi before after k
      → KeepsAll m gpi first after k
  keeps_on first before after k s h = record { setup = h.setup ∙ s; loaded = h.loaded; keys = h.keys }

  -- what fits is kept
  pub keeps_fits : (first after : Engine M W F) (k : K) → setup_of m after ≡ setup_of m first → gpi.is_loaded k → FitsKernel m after (gpi.content k)
      → KeepsAll m gpi first after k
  keeps_fits first after k s l f = record { setup = s; loaded = l; keys = record { keys_are = f.test.queue.queue.keys_are; held_are = f.test.queue.queue.held_are } }

  -- the same, from where the setup was the same
  pub leaves_on : (s : Status) (first before after : Engine M W F) (k : K) → setup_of m before ≡ setup_of m first → Leaves m gpi s before after k
      → Leaves m gpi s first after k
  leaves_on s first before after k e l = record { keeps = keeps_on first before after k e l.keeps; idle = l.idle; fits = l.fits; cleared = l.cleared }

  -- memory was short
  pub leaves_none : (before after : Engine M W F) (k : K) → KeepsAll m gpi before after k → runs_test after ≡ false
      → Leaves m gpi status.NoMemory before after k
  leaves_none before after k keeps idle = record { keeps = keeps; idle = idle; fits = λ n w. absurd (n refl); cleared = λ v. cc }

  pub stage_short : (r : Result Stage NoMemory) (before after : Engine M W F) (k : K) → IsErr r → KeepsAll m gpi before after k → runs_test after ≡ false
      → Leaves m gpi (stage_status r) before after k
  stage_short (Ok s) before after k h keeps idle = cc
  stage_short (Err x) before after k h keeps idle = leaves_none before after k keeps idle

  pub run_none : (r : Result Status NoMemory) (before after : Engine M W F) (k : K) → IsErr r → Leaves m gpi status.NoMemory before after k
      → Leaves m gpi (status_in r) before after k
  run_none (Ok s) before after k h l = cc
  run_none (Err x) before after k h l = l

  -- a stage that is known
  pub stage_leaves : (s t : Stage) (before after : Engine M W F) (k : K) → s ≡ t → Leaves m gpi (stage_status (Ok s)) before after k
      → Leaves m gpi (stage_status (Ok t)) before after k
  stage_leaves s t before after k e l = subst (λ (x : Stage). Leaves m gpi (stage_status (Ok x)) before after k) e l

  pub passed_fits : (before after : Engine M W F) (k : K) → Leaves m gpi status.Passed before after k → FitsKernel m after (gpi.content k)
  passed_fits before after k l = l.fits (λ e. cc) (λ e. cc)

  -- a put failed
  pub leaves_broken : (before after : Engine M W F) (k : K) → KeepsAll m gpi before after k → runs_test after ≡ false
      → Leaves m gpi status.WriteFault before after k
  leaves_broken before after k keeps idle = record { keeps = keeps; idle = idle; fits = λ n w. absurd (w refl); cleared = λ v. cc }

  -- the run stopped before its end
  pub leaves_amid : (s : Status) (before after : Engine M W F) (k : K) → has_verdict s ≡ false → KeepsAll m gpi before after k → runs_test after ≡ false
      → FitsKernel m after (gpi.content k) → Leaves m gpi s before after k
  leaves_amid s before after k none keeps idle fits =
      record { keeps = keeps; idle = idle; fits = λ n w. fits; cleared = λ v. let e : true ≡ false = sym v ∙ none in cc }

  pub cleared : (e : Engine M W F) (k : Content) → FitsKernel m e k → IsEmpty (rig_of m e k) → IsCleared m e k
  cleared e k f empty = record { empty = empty; none_registered = none_registered m e k f empty }

  -- nothing of a test is left
  pub leaves_cleared : (s : Status) (before after : Engine M W F) (k : K) → setup_of m after ≡ setup_of m before → gpi.is_loaded k → runs_test after ≡ false
      → FitsKernel m after (gpi.content k) → IsEmpty (rig_of m after (gpi.content k)) → Leaves m gpi s before after k
  leaves_cleared s before after k setup loaded idle fits empty = record {
    keeps = keeps_fits before after k setup loaded fits;
    idle = idle;
    fits = λ n w. fits;
    cleared = λ v. cleared after (gpi.content k) fits empty;
  }

-- When a queue and a simulator fit.
use Rattle.std.specs.Prelude.{◌≡◌, ℕ, ◌<◌, ◌≤◌, ◌+◌, List, [], ◌∷◌, length, slice_index_or}
use Rattle.gpi.specs.Content.{Content}
use Rattle.gpi.specs.Design.{nets_of, procs_of, widths}
use Rattle.gpi.specs.Terms.{widths_of}
use Rattle.gpi.specs.declared.design.Flat.{Flat}
use Rattle.gpi.specs.declared.design.Signal.{Signal}
use Rattle.gpi.specs.declared.types.Counts.{Counts}
use Rattle.gpi.specs.declared.types.Key.{Key}
use Rattle.gpi.specs.Keys.{raised_by}
use Rattle.run_view.specs.declared.signal_port.staged.Staged.{Staged}
use Rattle.await_tree.specs.WaitList.Keys.{AreAlike, AreKeys}
use Rattle.await_tree.specs.WaitList.Waiting.{named}
use Rattle.rig_model.specs.Task.Known.{HasDigits}
use Rattle.rig_model.specs.Run.Rig.{Rig, Setup, awaited, procs, nets}
use Rattle.rig_model.specs.Parts.Queue.{Queue, queue_held}

-- the write is of a signal of the design, and what has digits has as many
abbrev pub IsSoundWrite : List Signal → Staged → Type 0
IsSoundWrite signals w = (w.sig.0 < length signals) × HasDigits (slice_index_or (widths signals) w.sig.0 0) w.act

abbrev pub AreSoundWrites : List Signal → List Staged → Type 0
AreSoundWrites signals [] = Unit {0}
AreSoundWrites signals (w ∷ ws) = IsSoundWrite signals w × AreSoundWrites signals ws

-- The queue of a test on this design, which has room for so many ready tasks, and a simulator fit: the simulator has the processes and the nets of the design, and
-- its signals, each with its width; the registered keys are those of the waiting tasks and those that the runner holds; it holds the read-write phase while a
-- write is staged, and the times of a deadline and of a planned start; and there is room for each task that is ready or waits.
pub record FitsQueue (flat : Flat) (room : ℕ) (held : List Key) (q : Queue) (content : Content) : Type 0 where
  pub procs_are : content.procs ≡ procs_of flat.processes
  pub nets_are : content.nets ≡ nets_of flat.signals
  pub signals : widths_of content.state.signals ≡ widths flat.signals
  pub keys_are : AreKeys content.keys (named q.waiting held)
  pub held_are : AreAlike held (queue_held q)
  pub writes : AreSoundWrites flat.signals q.staged
  pub room_is : length q.ready + length q.waiting ≤ room

-- What stays whatever a call answers: the registered keys are the named ones, and the runner holds what the queue says.
pub record KeepsQueue (held : List Key) (q : Queue) (content : Content) : Type 0 where
  pub keys_are : AreKeys content.keys (named q.waiting held)
  pub held_are : AreAlike held (queue_held q)

-- ---- configurations

-- the counts where these keys are counted as fired already
abbrev pub ahead : List Key → Counts → Counts
ahead fired counts = record counts { fired = raised_by fired counts.fired }

-- What a simulator holds stands for a configuration in all that the simulator knows of it, but that these keys are counted as fired already: its
-- processes and its nets are those of the design, its state is that of the configuration, and the registered keys are the awaited ones.
pub record StandsAhead (fired : List Key) (setup : Setup) (content : Content) (c : Rig) : Type 0 where
  pub procs_are : content.procs ≡ procs setup
  pub nets_are : content.nets ≡ nets setup
  pub state_is : content.state ≡ c.sim
  pub keys_are : AreKeys content.keys (awaited c)
  pub counts_are : content.counts ≡ ahead fired c.counts

-- The same, with the counts of the configuration.
abbrev pub StandsFor : Setup → Content → Rig → Type 0
StandsFor setup content c = StandsAhead [] setup content c

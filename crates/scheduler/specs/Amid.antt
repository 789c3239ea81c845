-- A means of proof: amid an event, while keys that fired are still to be served, for the proofs of the runner's turns.
use Rattle.std.specs.Prelude.{◌≡◌, ℕ, ◌≤◌, ◌+◌, true, false, List, length, Option}
use Rattle.port_io.specs.Means.{SinkMeans}
use Rattle.port_io.specs.declared.ports.SinkFault.{SinkFault}
use Rattle.gpi.specs.Content.{Content}
use Rattle.gpi.specs.Design.{nets_of, procs_of, widths}
use Rattle.gpi.specs.Keys.{among}
use Rattle.gpi.specs.Terms.{widths_of}
use Rattle.gpi.specs.declared.design.Flat.{Flat}
use Rattle.gpi.specs.declared.types.Counts.{Counts}
use Rattle.gpi.specs.declared.types.Key.{Key}
use Rattle.await_tree.specs.WaitList.Keys.{AreKeys}
use Rattle.rig_model.specs.Run.Rig.{Rig, After}
use Rattle.rig_model.specs.Parts.Fits.{AreSoundWrites, ahead}
use Rattle.rig_model.specs.Parts.Queue.{Queue, queue_awaited, queue_held, rig_amid}
use Rattle.run_state.specs.Queue.Still.{AreStill}
use Rattle.scheduler.specs.Puts.{PutsOn}

-- While these keys have fired and are still to be served, a simulator stands for a configuration of this queue with these counts, in which the keys aren't
-- counted as fired yet: the registered keys are the awaited ones, and the runner holds what the queue says, but for fired keys. The rest is as `Fits` of
-- `run_state::queue` has it.
pub record StandsAmid (flat : Flat) (room : ℕ) (fired : List Key) (counts : Counts) (held : List Key) (q : Queue) (content : Content) : Type 0 where
  pub procs_are : content.procs ≡ procs_of flat.processes
  pub nets_are : content.nets ≡ nets_of flat.signals
  pub signals : widths_of content.state.signals ≡ widths flat.signals
  pub keys_are : AreKeys content.keys (queue_awaited fired q)
  pub held_are : (k : Key) → among k fired ≡ false → among k held ≡ among k (queue_held q)
  pub counts_are : content.counts ≡ ahead fired counts
  pub writes : AreSoundWrites flat.signals q.staged
  pub room_is : length q.ready + length q.waiting ≤ room
  pub still : AreStill q.waiting

-- so it is with some counts
pub record IsAmid (flat : Flat) (room : ℕ) (fired held : List Key) (q : Queue) (content : Content) : Type 0 where
  pub counts : Counts
  pub stands : StandsAmid flat room fired counts held q content

-- so it is while some keys are to be served that the runner holds
pub record IsAmidHeld (flat : Flat) (room : ℕ) (held : List Key) (q : Queue) (content : Content) : Type 0 where
  pub fired : List Key
  pub amid : IsAmid flat room fired held q content
  pub covered : (k : Key) → among k fired ≡ true → among k held ≡ true

-- An effect leads from one queue and simulator to another, whatever the rest of the configuration is, and its lines were put, as far as no put had failed.
pub record Serves {O : Type 0} (sink : SinkMeans O) (effect : Rig → After) (flat : Flat) (room : ℕ) (fired : List Key) (counts : Counts)
    (q : Queue) (content : Content) (held' : List Key) (q' : Queue) (content' : Content)
    (fault : Option SinkFault) (out : O) (fault' : Option SinkFault) (out' : O) : Type 0 where
  pub after : Counts
  pub stands : StandsAmid flat room fired after held' q' content'
  pub leads : (c : Rig) → (effect (rig_amid fired counts q content.state c)).rig ≡ rig_amid fired after q' content'.state c
  pub puts : (c : Rig) → PutsOn sink fault out (effect (rig_amid fired counts q content.state c)).lines fault' out'

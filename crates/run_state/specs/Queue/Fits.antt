-- A means of proof: the queue that a `RunQueue` keeps, and when it and a simulator fit, for the proofs of the runner's queue.
use Rattle.std.specs.Prelude.{◌≡◌, List, []}
use Rattle.gpi.specs.Content.{Content}
use Rattle.gpi.specs.Design.{nets_of, procs_of, widths}
use Rattle.gpi.specs.Terms.{widths_of}
use Rattle.gpi.specs.declared.design.Flat.{Flat}
use Rattle.gpi.specs.declared.types.Key.{Key}
use Rattle.await_tree.specs.WaitList.Keys.{AreKeys}
use Rattle.await_tree.specs.WaitList.Waiting.{Waiting}
use Rattle.rig_model.specs.Parts.Fits.{FitsQueue, KeepsQueue}
use Rattle.rig_model.specs.Parts.Queue.{Queue}
use Rattle.run_state.specs.Queue.Still.{AreStill}
use Rattle.run_state.specs.declared.queue.queue.RunQueue.{RunQueue}

-- what is ready, what waits and what the runner awaits
abbrev pub queue_of : {W : Type 0} → (W → List Waiting) → RunQueue W → Queue
queue_of waiting q = record {
  ready = q.ready.entries;
  waiting = waiting q.awaits;
  staged = q.staged;
  deadline = q.deadline;
  planned = q.planned;
}

-- The queue and a simulator that holds this fit on this design, and the trees of the waiting tasks have begun and aren't done.
pub record Fits (flat : Flat) {W : Type 0} (waiting : W → List Waiting) (held : W → List Key) (q : RunQueue W) (content : Content) : Type 0 where
  pub queue : FitsQueue flat q.ready.room (held q.awaits) (queue_of waiting q) content
  pub still : AreStill (waiting q.awaits)

-- the registered keys are the named ones, and the runner holds what the queue says
abbrev pub Keeps : {W : Type 0} → (W → List Waiting) → (W → List Key) → RunQueue W → Content → Type 0
Keeps waiting held q content = KeepsQueue (held q.awaits) (queue_of waiting q) content

-- A simulator of the design in which no key is registered.
pub record IsBare (flat : Flat) (content : Content) : Type 0 where
  pub procs_are : content.procs ≡ procs_of flat.processes
  pub nets_are : content.nets ≡ nets_of flat.signals
  pub signals : widths_of content.state.signals ≡ widths flat.signals
  pub keys_are : AreKeys content.keys []

-- Of what a simulator holds only the registered keys and the counts have changed.
pub record Stays (before after : Content) : Type 0 where
  pub procs : after.procs ≡ before.procs
  pub nets : after.nets ≡ before.nets
  pub state : after.state ≡ before.state

-- A means of proof: what a configuration is made of, and which keys the runner itself awaits, for the proofs of the runner.
use Rattle.std.specs.Prelude.{◌≡◌, ℕ, true, List, Some}
use Rattle.gpi.specs.Keys.{Keys, has}
use Rattle.gpi.specs.State.{State}
use Rattle.gpi.specs.declared.types.Counts.{Counts}
use Rattle.gpi.specs.declared.types.Key.{Key}
use Rattle.gpi.specs.declared.types.Key.TheVariants.{At, ReadWrite}
use Rattle.rig_model.specs.Run.Rig.{Rig, is_any}
use Rattle.rig_model.specs.Parts.Queue.{Queue}

-- the queue of a configuration
abbrev pub queue_in : Rig → Queue
queue_in c = record { ready = c.ready; waiting = c.waiting; staged = c.staged; deadline = c.deadline; planned = c.planned }

-- The configuration after it has this queue, this state of the simulator, these counts and these fired keys; all else is that of the one before it.
pub record IsMadeOf (fired : List Key) (counts : Counts) (q : Queue) (sim : State) (before after : Rig) : Type 0 where
  pub queue_is : queue_in after ≡ q
  pub sim_is : after.sim ≡ sim
  pub fired_are : after.fired ≡ fired
  pub counts_are : after.counts ≡ counts
  pub tasks : after.tasks ≡ before.tasks
  pub endings : after.endings ≡ before.endings
  pub running : after.running ≡ before.running
  pub objects : after.objects ≡ before.objects
  pub queues : after.queues ≡ before.queues
  pub random : after.random ≡ before.random
  pub outcome : after.outcome ≡ before.outcome

-- These keys are registered: the read-write phase while a write is staged, and the times at which the test is given up and the next one begins.
pub record HasOwnKeys (q : Queue) (keys : Keys) : Type 0 where
  pub phase : is_any q.staged ≡ true → has ReadWrite keys ≡ true
  pub deadline : (time : ℕ) → q.deadline ≡ Some time → has (At time) keys ≡ true
  pub planned : (time : ℕ) → q.planned ≡ Some time → has (At time) keys ≡ true

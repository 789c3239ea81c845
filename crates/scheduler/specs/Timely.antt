-- A means of proof: how late the times of a configuration are, for the proofs of the runner's turns.
use Rattle.std.specs.Prelude.{◌≡◌, ◌≤◌, ℕ, true, List, [], ◌∷◌, Option, IfSome}
use Rattle.gpi.specs.Keys.{among}
use Rattle.gpi.specs.Limits.{latest_update}
use Rattle.gpi.specs.State.{State}
use Rattle.gpi.specs.declared.types.Delayed.{Delayed}
use Rattle.gpi.specs.declared.types.Key.{Key}
use Rattle.gpi.specs.declared.types.Key.TheVariants.{At}
use Rattle.await_tree.specs.Check.{last_time}
use Rattle.await_tree.specs.WaitList.Waiting.{Waiting, keys_of}
use Rattle.rig_model.specs.Run.Rig.{Rig}

-- each of these keys that is a time is no later than this one
abbrev pub AreTimely : ℕ → List Key → Type 0
AreTimely latest keys = (due : ℕ) → among (At due) keys ≡ true → due ≤ latest

-- each of these updates comes no later than an update may
abbrev pub AreEarly : List Delayed → Type 0
AreEarly [] = Unit {0}
AreEarly (d ∷ ds) = (d.time ≤ latest_update) × AreEarly ds

-- The time of the simulator is no later than the bound, and its updates that wait for a time come no later than updates may.
pub record IsEarly (bound : ℕ) (sim : State) : Type 0 where
  pub time : sim.time ≤ bound
  pub updates : AreEarly sim.delayed

-- The time is no later than the bound, and neither is a planned start. The updates that wait for a time come no later than updates may. The times that tasks
-- wait for, and the deadline, are no later than the latest that may be waited for.
pub record AreWithin (bound : ℕ) (sim : State) (waiting : List Waiting) (given_up start : Option ℕ) : Type 0 where
  pub time : sim.time ≤ bound
  pub updates : AreEarly sim.delayed
  pub leaves : AreTimely last_time (keys_of waiting)
  pub deadline : IfSome given_up (λ (due : ℕ). due ≤ last_time)
  pub planned : IfSome start (λ (due : ℕ). due ≤ bound)

-- No time in the configuration is too late, where a time may come up to this bound.
abbrev pub IsTimely : ℕ → Rig → Type 0
IsTimely bound c = AreWithin bound c.sim c.waiting c.deadline c.planned

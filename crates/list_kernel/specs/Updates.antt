-- A means of proof: the updates that wait, for the proofs of the plain simulator.
use Rattle.std.specs.Prelude.{◌≡◌, ℕ, ◌+◌, ◌++◌, ◌≤◌, List, [], ◌∷◌, length, vec_capacity, Option}
use Rattle.gpi.specs.declared.types.Delayed.{Delayed}
use Rattle.gpi.specs.Keys.{lesser}
use Rattle.gpi.specs.Targets.{AreFitting}
use Rattle.gpi.specs.Activation.{Run}
use Rattle.gpi.specs.State.{at_once, all_delaying}
use Rattle.kernel_base.specs.Lists.{updates_in}
use Rattle.list_kernel.specs.declared.values.Values.{Values}
use Rattle.list_kernel.specs.declared.updates.Updates.{Updates}

-- the least of this time, if there is one, and of those for which the updates wait
abbrev pub soonest : List Delayed → Option ℕ → Option ℕ
soonest [] other = other
soonest (d ∷ ds) other = lesser d.time (soonest ds other)

-- each update lies in its signal, none is left over from an activation, and all delayed ones have room where they come due
pub record AreUpdates (u : Updates) (ws : List ℕ) : Type 0 where
  pub due : AreFitting u.due.items ws
  pub later : AreFitting u.later.items ws
  pub delayed : AreFitting (updates_in u.delayed.items) ws
  pub appended : u.appended.items ≡ []
  pub due_room : length u.delayed.items ≤ vec_capacity u.due
  pub later_room : length u.delayed.items ≤ vec_capacity u.later

-- so many more updates have room, wherever they are to wait
pub record HasRoom (more : ℕ) (u : Updates) : Type 0 where
  pub due : length u.delayed.items + more ≤ vec_capacity u.due
  pub later : length u.later.items + (length u.delayed.items + more) ≤ vec_capacity u.later
  pub delayed : length u.delayed.items + more ≤ vec_capacity u.delayed

-- an activation at this time has run: the values are those that it leaves, and its updates wait
pub record HasRun (now : ℕ) (r : Run) (before after : Updates) (values : Values) : Type 0 where
  pub shown : values.shown.items ≡ r.signals
  pub hidden : values.hidden.items ≡ r.hidden
  pub later : after.later.items ≡ before.later.items ++ at_once r.updates
  pub delayed : after.delayed.items ≡ all_delaying now r.updates before.delayed.items

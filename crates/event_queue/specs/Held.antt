-- A means of proof: what a queue holds.
use Rattle.std.specs.Prelude.{◌≡◌, ℕ, ◌+◌, ◌≤◌, List, length, take, drop}
use Rattle.std.specs.VecDeque.{deque_len, deque_capacity}
use Rattle.gpi.specs.declared.types.Update.{Update}
use Rattle.gpi.specs.declared.types.Delayed.{Delayed}
use Rattle.event_queue.specs.Delays.{waiting_in, room_in}
use Rattle.event_queue.specs.declared.updates.Updates.{Updates}

abbrev pub due_of : Updates → List Update
due_of u = take u.due u.ready.items

abbrev pub later_of : Updates → List Update
later_of u = drop u.due u.ready.items

abbrev pub delayed_of : Updates → List Delayed
delayed_of u = waiting_in u.delayed

-- so many more updates have room, wherever they are to wait
pub record HasRoom (more : ℕ) (u : Updates) : Type 0 where
  pub ready : deque_len u.ready + (length (waiting_in u.delayed) + more) ≤ deque_capacity u.ready
  pub delayed : more ≤ room_in u.delayed

pub record AreSameUpdates (before after : Updates) : Type 0 where
  pub due : due_of after ≡ due_of before
  pub later : later_of after ≡ later_of before
  pub delayed : delayed_of after ≡ delayed_of before

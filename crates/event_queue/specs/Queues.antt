-- A means of proof: what a queue holds as a whole.
use Rattle.std.specs.Prelude.{ℕ, List, []}
use Rattle.gpi.specs.declared.types.Update.{Update}
use Rattle.gpi.specs.declared.types.Delayed.{Delayed}
use Rattle.kernel_base.specs.TimeSets.{times_of}
use Rattle.event_queue.specs.Held.{due_of, later_of, delayed_of, HasRoom}
use Rattle.event_queue.specs.declared.queue.Queue.{Queue}

-- the active processes, the updates that are due, that wait for the running processes, and that wait for their time, and the registered times
pub record Held : Type 0 where
  pub active : List ℕ
  pub due : List Update
  pub later : List Update
  pub delayed : List Delayed
  pub times : List ℕ

abbrev pub held : Queue → Held
held q = record { active = q.active.list; due = due_of q.updates; later = later_of q.updates; delayed = delayed_of q.updates; times = times_of q.times }

abbrev pub none_held : Held
none_held = record { active = []; due = []; later = []; delayed = []; times = [] }

-- how many processes there are
abbrev pub processes_of : Queue → ℕ
processes_of q = q.active.count

-- there is room for so many more updates
abbrev pub HasRoomFor : ℕ → Queue → Type 0
HasRoomFor more q = HasRoom more q.updates

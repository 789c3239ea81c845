-- A means of proof: the updates that wait for their time, as a queue holds them.
use Rattle.std.specs.Prelude.{ℕ, ◌-◌, List}
use Rattle.std.specs.VecDeque.{deque_len, deque_capacity}
use Rattle.gpi.specs.declared.types.Delayed.{Delayed}
use Rattle.event_queue.specs.Waiting.{sorted_of, all_with}
use Rattle.event_queue.specs.declared.delayed.Delays.{Delays}

-- by rising time, and for one time in the order in which they came
abbrev pub waiting_in : Delays → List Delayed
waiting_in d = all_with d.fresh.items (sorted_of d.sorted.entries)

-- how many more have room
abbrev pub room_in : Delays → ℕ
room_in d = deque_capacity d.fresh - deque_len d.fresh

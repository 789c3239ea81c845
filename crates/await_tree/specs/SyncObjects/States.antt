-- What is known of the events and locks of a test, each by its number from 0 in the order in which they were made (cocotb 1.8, "Triggers",
-- `Event` and `Lock`).
use Rattle.std.specs.Prelude.{Bool, true, false, List, [], ◌∷◌, ◌++◌, slice_index_or, slice_set}
use Rattle.py_value.specs.declared.trigger.EventNo.{EventNo}
use Rattle.py_value.specs.declared.trigger.LockNo.{LockNo}
pub use Rattle.await_tree.specs.SyncObjects.Limits.{event_limit, lock_limit}

-- of each event whether it is set, and of each lock whether it is held
pub record States : Type 0 where
  pub events : List Bool
  pub locks : List Bool

-- nothing was made
abbrev pub none : States
none = record { events = []; locks = [] }

-- ---- made

-- a new event is unset
abbrev pub with_event : States → States
with_event s = record s { events = s.events ++ false ∷ [] }

-- a new lock is free
abbrev pub with_lock : States → States
with_lock s = record s { locks = s.locks ++ false ∷ [] }

-- ---- events

abbrev pub is_set : EventNo → States → Bool
is_set event s = slice_index_or s.events event.0 false

abbrev pub with_set : EventNo → States → States
with_set event s = record s { events = slice_set s.events event.0 true }

abbrev pub with_unset : EventNo → States → States
with_unset event s = record s { events = slice_set s.events event.0 false }

-- ---- locks

abbrev pub is_held : LockNo → States → Bool
is_held lock s = slice_index_or s.locks lock.0 false

abbrev pub with_held : LockNo → States → States
with_held lock s = record s { locks = slice_set s.locks lock.0 true }

abbrev pub with_free : LockNo → States → States
with_free lock s = record s { locks = slice_set s.locks lock.0 false }

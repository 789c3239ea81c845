-- A means of proof: the names that slots stand for, for the proofs of a task's open calls.
use Rattle.std.specs.Prelude.{ℕ, List, [], ◌∷◌, ◌++◌, map, take, drop, Option, None, Some}
use Rattle.py_value.specs.declared.value.Value.{Value}
use Rattle.py_evaluate.specs.Attribute.Look.{Names, Local}
use Rattle.task_core.specs.declared.open_call.slots.Slot.{Slot}
use Rattle.task_core.specs.declared.open_call.slots.Slots.{Slots}

abbrev pub local_in : Slot → Local
local_in s = record { name = s.name.now; value = s.value }

abbrev pub names_in : Slots → Names
names_in s = map local_in s.slots.items

-- the first slot with this value
abbrev pub first_valued : List Slot → Option Value → List Slot
first_valued [] v = []
first_valued (s ∷ ss) v = record s { value = v } ∷ ss

-- slots with this value at a place, where there is a place
abbrev pub valued : List Slot → Option ℕ → Option Value → List Slot
valued ss None v = ss
valued ss (Some k) v = take k ss ++ first_valued (drop k ss) v

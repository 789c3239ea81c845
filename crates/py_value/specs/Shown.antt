-- How values are shown, and the paths of a design.
use Rattle.std.specs.Prelude.{ℕ, ◌<◌, length, List, ◌++◌, codes, true, false}
use Rattle.std.specs.Fmt.{decimal, signed_decimal}
use Rattle.four_value.specs.Vector.{digit_letters}
use Rattle.py_value.specs.declared.value.Value.{Value}
use Rattle.py_value.specs.declared.value.Value.TheVariants.{Absent, Truth, Whole, Text, Vector, Place, Words, Signal as Sig, Trigger, Task, Event, Lock, Queue, Clock, Caught}
use Rattle.py_value.specs.Places.{Places, path_at}

-- a kind of thing, and its number
abbrev pub numbered : List ℕ → ℕ → List ℕ
numbered kind n = kind ++ (decimal n ++ codes ">")

abbrev pub shown : Places → Value → List ℕ
shown places Absent = codes "None"
shown places (Truth true) = codes "True"
shown places (Truth false) = codes "False"
shown places (Whole z) = signed_decimal z
shown places (Text bs) = bs
shown places (Vector ds) = digit_letters ds
shown places (Place n) = path_at places.nodes n
shown places (Words s l n) = codes "<memory>"
shown places (Sig s) = path_at places.signals s.0
shown places (Trigger t) = codes "<trigger>"
shown places (Task t) = numbered (codes "<task ") t.0
shown places (Event e) = numbered (codes "<event ") e.0
shown places (Lock l) = numbered (codes "<lock ") l.0
shown places (Queue q) = numbered (codes "<queue ") q.0
shown places (Clock s h) = codes "<clock>"
shown places (Caught f) = f.text

-- the signal or the hierarchy that a value is, is one of the design
abbrev pub IsOf : Places → Value → Type 0
IsOf places (Place n) = n < length places.nodes
IsOf places (Sig s) = s.0 < length places.signals
IsOf places _ = Unit {0}

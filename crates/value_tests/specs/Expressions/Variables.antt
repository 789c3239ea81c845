-- A means of proof: the names of the rows' task, with their values, in the code and in contracts, for the test program of evaluation.
use Rattle.std.specs.Prelude.{List, [], ◌∷◌, ◌++◌, ℕ, None, Some, codes, pos, negsuc, true}
use Rattle.four_value.specs.declared.Digit.TheVariants as digit
use Rattle.py_syntax.specs.declared.fault_kind.FaultKind.TheVariants.{ValueError}
use Rattle.py_value.specs.declared.value.Value.{Value}
use Rattle.py_value.specs.declared.value.Value.TheVariants.{Absent, Truth, Whole, Text, Vector, Place, Signal, Task, Event, Lock, Queue, Clock, Caught}
use Rattle.py_evaluate.specs.Attribute.Look.{Local, Names}
use Rattle.value_tests.specs.declared.expressions.variables.Variable.{Variable}

abbrev pub local_of : Variable → Local
local_of v = record { name = v.name; value = v.value }

abbrev pub locals_of : List Variable → Names
locals_of [] = []
locals_of (v ∷ vs) = local_of v ∷ locals_of vs

-- a name that has a value
abbrev pub named : List ℕ → Value → Local
named name v = record { name = name; value = Some v }

-- the top, numbers, a truth value, None and a text
abbrev pub plain_names : Names
plain_names =
    named (codes "dut") (Place 0) ∷ named (codes "i") (Whole (pos 7)) ∷ named (codes "j") (Whole (negsuc 2)) ∷ named (codes "b") (Truth true)
    ∷ named (codes "n") Absent ∷ named (codes "t") (Text (codes "ns")) ∷ []

-- vectors, by their digits from the lowest on, signals, and a name that is unassigned
abbrev pub vector_names : Names
vector_names =
    named (codes "v") (Vector (digit.Zero ∷ digit.One ∷ digit.One ∷ digit.Zero ∷ [])) ∷ named (codes "w") (Vector (digit.One ∷ digit.X ∷ []))
    ∷ named (codes "s") (Signal (record { 0 = 0 })) ∷ named (codes "d") (Signal (record { 0 = 1 }))
    ∷ record { name = codes "zz"; value = None } ∷ []

-- what the test has made, and a fault that was caught
abbrev pub made_names : Names
made_names =
    named (codes "l") (Lock (record { 0 = 0 })) ∷ named (codes "k") (Lock (record { 0 = 1 }))
    ∷ named (codes "e") (Event (record { 0 = 1 })) ∷ named (codes "o") (Event (record { 0 = 0 }))
    ∷ named (codes "p") (Task (record { 0 = 1 })) ∷ named (codes "q") (Task (record { 0 = 2 }))
    ∷ named (codes "c") (Clock (record { 0 = 1 }) 5)
    ∷ named (codes "f") (Caught (record { kind = ValueError; text = codes "hm" }))
    ∷ named (codes "g") (Queue (record { 0 = 0 })) ∷ named (codes "h") (Queue (record { 0 = 1 })) ∷ []

-- the names of the rows' task
abbrev pub task_names : Names
task_names = plain_names ++ (vector_names ++ made_names)

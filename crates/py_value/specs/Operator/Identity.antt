-- Which values are the same (the language reference, 6.10.3, as far as values have an identity of their own).
use Rattle.std.specs.Prelude.{◌==◌, Bool, true, false, not, ◌&&◌}
use Rattle.std.specs.Str.{bytes_eq}
use Rattle.four_value.specs.Vector.{same_digits}
use Rattle.py_value.specs.Integer.Integer.{same_number}
use Rattle.py_syntax.specs.declared.fault_kind.FaultKind.{FaultKind}
use Rattle.py_syntax.specs.StatementTables.{fault_name}
use Rattle.py_value.specs.Trigger as trigger
use Rattle.py_value.specs.declared.trigger.TrigId.{TrigId}
use Rattle.py_value.specs.declared.value.Value.{Value}
use Rattle.py_value.specs.declared.value.Value.TheVariants.{Absent, Truth, Whole, Text, Vector, Place, Words, Signal, Trigger, Task, Event, Lock, Queue, Clock, Caught}

abbrev pub same_truth : Bool → Bool → Bool
same_truth true b = b
same_truth false b = not b

-- kinds of faults have names of their own
abbrev pub same_kind : FaultKind → FaultKind → Bool
same_kind a b = bytes_eq (fault_name a) (fault_name b)

abbrev pub same_id : TrigId → TrigId → Bool
same_id a b = (a.task.0 == b.task.0) && (a.number == b.number)

-- edges, phases and joins are the same where kind and object are; other triggers where the same evaluation made them
abbrev pub same_trigger : trigger.Trig → trigger.Trig → Bool
same_trigger (trigger.Made i (trigger.Rise a)) (trigger.Made j (trigger.Rise b)) = a.0 == b.0
same_trigger (trigger.Made i (trigger.Fall a)) (trigger.Made j (trigger.Fall b)) = a.0 == b.0
same_trigger (trigger.Made i (trigger.Change a)) (trigger.Made j (trigger.Change b)) = a.0 == b.0
same_trigger (trigger.Made i trigger.ReadWrite) (trigger.Made j trigger.ReadWrite) = true
same_trigger (trigger.Made i trigger.ReadOnly) (trigger.Made j trigger.ReadOnly) = true
same_trigger (trigger.Made i trigger.NextStep) (trigger.Made j trigger.NextStep) = true
same_trigger (trigger.Made i (trigger.Join a)) (trigger.Made j (trigger.Join b)) = a.0 == b.0
-- (evaluations have different numbers, so that two kinds of triggers never share one)
same_trigger (trigger.Made i f) (trigger.Made j g) = same_id i j

-- values are the same where kind and value are
abbrev pub same_value : Value → Value → Bool
same_value Absent Absent = true
same_value (Truth a) (Truth b) = same_truth a b
same_value (Whole a) (Whole b) = same_number a b
same_value (Text a) (Text b) = bytes_eq a b
same_value (Vector a) (Vector b) = same_digits a b
same_value (Place a) (Place b) = a == b
same_value (Words a l m) (Words b k n) = (a.0 == b.0) && ((l == k) && (m == n))
same_value (Signal a) (Signal b) = a.0 == b.0
same_value (Trigger a) (Trigger b) = same_trigger a b
same_value (Task a) (Task b) = a.0 == b.0
same_value (Event a) (Event b) = a.0 == b.0
same_value (Lock a) (Lock b) = a.0 == b.0
same_value (Queue a) (Queue b) = a.0 == b.0
same_value (Clock a m) (Clock b n) = (a.0 == b.0) && (m == n)
same_value (Caught a) (Caught b) = same_kind a.kind b.kind && bytes_eq a.text b.text
same_value _ _ = false

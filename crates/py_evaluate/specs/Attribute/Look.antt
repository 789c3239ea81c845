-- What a task sees of the simulation and of the runner, its names, and what values are by it (the language reference, 4.2).
use Rattle.std.specs.Prelude.{ℕ, ◌==◌, Bool, true, false, List, [], length, Option, None, Some, Ok, Err, codes, pos, slice_index_or, if◌then◌else◌}
use Rattle.std.specs.List.{find}
use Rattle.std.specs.Option.{option_map, option_and_then}
use Rattle.std.specs.Str.{bytes_eq}
use Rattle.four_value.specs.declared.Digit.{Digit}
use Rattle.gpi.specs.declared.design.Spot.{Spot}
use Rattle.gpi.specs.declared.design.Spot.TheVariants as spot
use Rattle.gpi.specs.declared.types.Region.{Region}
use Rattle.gpi.specs.declared.types.SigId.{SigId}
use Rattle.py_syntax.specs.declared.expression.BinOp.{BinOp}
use Rattle.py_syntax.specs.declared.expression.BinOp.TheVariants as op
use Rattle.py_syntax.specs.declared.fault_kind.FaultKind.TheVariants.{AttributeError, TypeError, UnboundLocalError}
use Rattle.py_value.specs.Answer.{Answer, and_then}
use Rattle.py_value.specs.Places.{Places, path_at}
use Rattle.py_value.specs.declared.trigger.EventNo.{EventNo}
use Rattle.py_value.specs.declared.trigger.QueueNo.{QueueNo}
use Rattle.py_value.specs.declared.value.Value.{Value}
use Rattle.py_value.specs.declared.value.Value.TheVariants.{Truth, Whole, Vector, Place, Words, Signal, Lock}
use Rattle.py_value.specs.Operator.Operation.{binary_value}
use Rattle.py_evaluate.specs.Attribute.Attribute.{path_attribute, vector_attribute, signal_of}

-- what is seen of a queue: how many items it holds, whether it is full, and the events that are set while it has an item and while it has room
pub record SeenQueue : Type 0 where
  pub held : ℕ
  pub is_full : Bool
  pub items_event : EventNo
  pub space_event : EventNo

-- The paths of the design; of each node the names that are declared in it; the femtoseconds of a step; the digits of each signal, the
-- time and the region; of each event of the test whether it is set, of each lock whether it is held, of each task whether it has ended; what
-- is seen of each queue of the test.
pub record View : Type 0 where
  pub places : Places
  pub nodes : List (List (List ℕ × Spot))
  pub step_fs : ℕ
  pub signals : List (List Digit)
  pub time : ℕ
  pub region : Region
  pub events : List Bool
  pub locks : List Bool
  pub ended : List Bool
  pub queues : List SeenQueue

-- a queue of the test
abbrev pub queue : View → QueueNo → SeenQueue
queue view q = slice_index_or view.queues q.0 (record { held = 0; is_full = false; items_event = record { 0 = 0 }; space_event = record { 0 = 0 } })

abbrev pub read : View → SigId → List Digit
read view sig = slice_index_or view.signals sig.0 []

-- how many digits a signal has
abbrev pub width : View → SigId → ℕ
width view sig = length (read view sig)

-- what a name means among those that are declared
abbrev pub spot_of : List (List ℕ × Spot) → List ℕ → Option Spot
spot_of declared name = option_map (λ c. c.1) (find (λ c. bytes_eq c.0 name) declared)

abbrev pub child : View → ℕ → List ℕ → Option Spot
child view node name = spot_of (slice_index_or view.nodes node []) name

-- ---- names of a function

-- a name, and its value where it has one
pub record Local : Type 0 where
  pub name : List ℕ
  pub value : Option Value

abbrev pub Names : Type 0
Names = List Local

-- the value of a name: the first entry of it counts
abbrev pub local : Names → List ℕ → Option Value
local ls n = option_and_then (λ l. l.value) (find (λ l. bytes_eq l.name n) ls)

-- the value of a name that is read
abbrev pub name_value : Option Value → Answer Value
name_value (Some v) = Ok v
name_value None = Err UnboundLocalError

-- ---- attributes

abbrev pub spot_value : Spot → Value
spot_value (spot.Inner n) = Place n
spot_value (spot.Sig s) = Signal s
spot_value (spot.Words s l n) = Words s l n

-- a child of a hierarchy hides what its path tells
abbrev pub place_attribute : Option Spot → List ℕ → List ℕ → Answer Value
place_attribute (Some s) path name = Ok (spot_value s)
place_attribute None path name = path_attribute path name

abbrev pub signal_attribute : View → SigId → List ℕ → Answer Value
signal_attribute view s name =
    if bytes_eq name (codes "value") then Ok (Vector (read view s)) else path_attribute (path_at view.places.signals s.0) name

abbrev pub lock_attribute : Bool → List ℕ → Answer Value
lock_attribute locked name = if bytes_eq name (codes "locked") then Ok (Truth locked) else Err AttributeError

abbrev pub attribute : View → Value → List ℕ → Answer Value
attribute view (Place n) name = place_attribute (child view n name) (path_at view.places.nodes n) name
attribute view (Signal s) name = signal_attribute view s name
attribute view (Vector ds) name = vector_attribute ds name
attribute view (Lock l) name = lock_attribute (slice_index_or view.locks l.0 false) name
attribute view _ name = Err AttributeError

-- a signal of one digit
abbrev pub one_bit : View → Value → Answer SigId
one_bit view v = and_then (signal_of v) (λ s. if width view s == 1 then Ok s else Err TypeError)

-- `len(v)`: the width of a signal
abbrev pub len : View → Value → Answer Value
len view v = and_then (signal_of v) (λ s. Ok (Whole (pos (width view s))))

-- ---- operators

-- a signal, a hierarchy or a memory
abbrev pub is_handle : Value → Bool
is_handle (Signal s) = true
is_handle (Place n) = true
is_handle (Words s l n) = true
is_handle _ = false

-- what stands beside an operand under `==`: a signal gives way to its value beside what is no handle
abbrev pub beside : View → Bool → Value → Value
beside view false (Signal s) = Vector (read view s)
beside view _ v = v

abbrev pub compared : View → BinOp → Value → Value → Answer Value
compared view o a b = binary_value o (beside view (is_handle b) a) (beside view (is_handle a) b)

abbrev pub operated : View → BinOp → Value → Value → Answer Value
operated view op.Equal a b = compared view op.Equal a b
operated view op.NotEqual a b = compared view op.NotEqual a b
operated view o a b = binary_value o a b

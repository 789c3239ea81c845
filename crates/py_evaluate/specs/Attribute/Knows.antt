-- A means of proof: which values a view knows, for the proofs of evaluation: each signal and node in them is of its design, each task,
-- event, lock and queue was made in its test, each trigger is sound, and each clock can run.
use Rattle.std.specs.Prelude.{◌≡◌, ℕ, ◌+◌, ◌<◌, ◌≤◌, length, List, [], ◌∷◌, IfSome}
use Rattle.gpi.specs.declared.types.SigId.{SigId}
use Rattle.py_value.specs.Limits.{signal_numbers}
use Rattle.py_value.specs.Trigger.{Trig, Made, Form, Trigs, NoTrig, Then, Rise, Fall, Change, Cycles, Event, Lock, Join, First, Combine, Limit, AreSteps, IsSound}
use Rattle.py_value.specs.declared.trigger.QueueNo.{QueueNo}
use Rattle.py_value.specs.declared.value.Value.{Value}
use Rattle.py_value.specs.declared.value.Value.TheVariants as value
use Rattle.py_evaluate.specs.Attribute.Look.{View, Names, child, local, queue, spot_value, width}

-- a signal of the design
abbrev pub KnowsSignal : View → ℕ → Type 0
KnowsSignal view s = (s < length view.signals) × (s < length view.places.signals)

-- a node of the design
abbrev pub KnowsNode : View → ℕ → Type 0
KnowsNode view n = (n < length view.nodes) × (n < length view.places.nodes)

-- all words of a memory are signals of the design
pub record KnowsWords (view : View) (first count : ℕ) : Type 0 where
  pub signals : first + count ≤ length view.signals
  pub places : first + count ≤ length view.places.signals
  pub numbers : first + count ≤ signal_numbers

-- a clock writes a signal of one digit, and half its period can be waited for
pub record KnowsClock (view : View) (sig : SigId) (half : ℕ) : Type 0 where
  pub signal : KnowsSignal view sig.0
  pub bit : width view sig ≡ 1
  pub steps : AreSteps half

-- what the leaves of a trigger wait for
abbrev mutual
  pub KnowsTrig : View → Trig → Type 0
  KnowsTrig view (Made id form) = KnowsForm view form

  pub KnowsForm : View → Form → Type 0
  KnowsForm view (Rise s) = KnowsSignal view s.0
  KnowsForm view (Fall s) = KnowsSignal view s.0
  KnowsForm view (Change s) = KnowsSignal view s.0
  KnowsForm view (Cycles s n b) = KnowsSignal view s.0
  KnowsForm view (Event e) = e.0 < length view.events
  KnowsForm view (Lock l) = l.0 < length view.locks
  KnowsForm view (Join t) = t.0 < length view.ended
  KnowsForm view (First ts) = KnowsTrigs view ts
  KnowsForm view (Combine ts) = KnowsTrigs view ts
  KnowsForm view (Limit ts n) = KnowsTrigs view ts
  KnowsForm view _ = Unit {0}

  pub KnowsTrigs : View → Trigs → Type 0
  KnowsTrigs view NoTrig = Unit {0}
  KnowsTrigs view (Then t ts) = KnowsTrig view t × KnowsTrigs view ts

abbrev pub Knows : View → Value → Type 0
Knows view (value.Place n) = KnowsNode view n
Knows view (value.Words first low count) = KnowsWords view first.0 count
Knows view (value.Signal s) = KnowsSignal view s.0
Knows view (value.Trigger t) = KnowsTrig view t × IsSound t
Knows view (value.Task t) = t.0 < length view.ended
Knows view (value.Event e) = e.0 < length view.events
Knows view (value.Lock l) = l.0 < length view.locks
Knows view (value.Queue q) = q.0 < length view.queues
Knows view (value.Clock s h) = KnowsClock view s h
Knows view _ = Unit {0}

abbrev pub KnowsAll : View → List Value → Type 0
KnowsAll view [] = Unit {0}
KnowsAll view (v ∷ vs) = Knows view v × KnowsAll view vs

-- the values of all names
abbrev pub KnowsNames : View → Names → Type 0
KnowsNames view names = (n : List ℕ) → IfSome (local names n) (Knows view)

-- what each name means that is declared in a node of the design
abbrev pub KnowsDesign : View → Type 0
KnowsDesign view = (node : ℕ) (name : List ℕ) → IfSome (child view node name) (λ s. Knows view (spot_value s))

-- both events of each queue were made in the test
abbrev pub KnowsEvents : View → Type 0
KnowsEvents view =
    (q : QueueNo) → q.0 < length view.queues → ((queue view q).items_event.0 < length view.events) × ((queue view q).space_event.0 < length view.events)
